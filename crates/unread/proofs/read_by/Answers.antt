use Rattle.unread.specs.Front.{read_by}
use Rattle.unread.proofs.read_by.Goals as goal

pub returns-then-both : goal.returns-then-both
unfolding read_by
returns-then-both c = rw (← c.number-n.ensures, ← c.both.ensures, c.if-both.true)

pub returns : goal.returns
unfolding read_by
returns c = let i = c in
    rw (← i.number-n.ensures, ← i.both.ensures, i.if-both.false, c.front_read.ensures, c.front.ensures)
