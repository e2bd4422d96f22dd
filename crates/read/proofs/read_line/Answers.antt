use Rattle.read.specs.Commands.{read_of, headed}
use Rattle.std.proofs.Common.{rules}
use Rattle.read.proofs.read_line.Goals as goal

pub returns-in_default : goal.returns-in_default
unfolding read_of headed
returns-in_default c = rw (← c.head_of.ensures, c.in_default.is, ← c.letters_fault.ensures)

pub returns : goal.returns
unfolding read_of headed
returns c = rw (← c.head_of.ensures, c.in-Some.is) c.judge.ensures
