use Rattle.counter_steps.proofs.Moves.{inside_back, inside-room}
use Rattle.counter_steps.proofs.is_inside.Goals as goal

pub returns-then-minus : goal.returns-then-minus
returns-then-minus c = let a = c.args in rw (c.both.ensures, c.less.ensures, c.wide32-from.ensures, c.wide32-most.ensures, c.ten.ensures, c.if-minus.true) (inside_back a.w a.far a.n)

pub returns : goal.returns
returns c = let a = c.args in rw (c.less-2.ensures, c.wide32-from.ensures, c.wide32-most.ensures, c.ten.ensures, c.if-minus.false) (inside-room a.w a.far a.n)
