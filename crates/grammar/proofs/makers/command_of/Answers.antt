use Rattle.grammar.proofs.makers.command_of.Goals as goal

pub returns-then-row-lt-LO : goal.returns-then-row-lt-LO
returns-then-row-lt-LO c = let a = c.args in c.page_makes.ensures a.ps.now a.line.now

pub returns-then-row-lt-FS : goal.returns-then-row-lt-FS
returns-then-row-lt-FS c = c.drawn_makes.ensures c.args.line.now

pub returns-then-row-lt-LS : goal.returns-then-row-lt-LS
returns-then-row-lt-LS c = c.value_makes.ensures c.args.line.now

pub returns-then-row-lt-TS : goal.returns-then-row-lt-TS
returns-then-row-lt-TS c = let a = c.args in c.slant_makes.ensures a.ps.now a.line.now

pub returns : goal.returns
returns c = let a = c.args in c.clock_makes.ensures a.ps.now a.line.now
