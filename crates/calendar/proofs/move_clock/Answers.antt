use borrow.Author.Tests.{le-leb, lt-leb}
use Rattle.calendar.specs.Clock.{moved}
use Rattle.calendar.proofs.move_clock.Goals as goal

pub returns-then-not-is_legal : goal.returns-then-not-is_legal
unfolding moved
returns-then-not-is_legal c = rw (← c.is_legal.ensures, c.if-not-is_legal.true)

pub returns-then-seconds-gt86400 : goal.returns-then-seconds-gt86400
unfolding moved
returns-then-seconds-gt86400 c = rw (← c.is_legal.ensures, c.if-not-is_legal.false, lt-leb _ 86400 c.if-seconds-gt86400.true)

pub returns : goal.returns
unfolding moved
returns c = rw (← c.is_legal.ensures, c.if-not-is_legal.false, le-leb _ 86400 c.if-seconds-gt86400.false, ← c.after.ensures)
