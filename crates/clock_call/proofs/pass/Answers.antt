use Rattle.clock_call.specs.Passing.{passed}
use Rattle.clock_call.proofs.pass.Goals as goal

pub returns-in-Ok : goal.returns-in-Ok
unfolding passed
returns-in-Ok c = rw (c.clocked.ensures, ← c.move_clock.ensures, c.in-Ok.is)

pub returns-in-Err-NoClock : goal.returns-in-Err-NoClock
unfolding passed
returns-in-Err-NoClock c = rw (← c.move_clock.ensures, c.in-Err-NoClock.is, c.in-Err-NoClock.field-0-is)

pub returns-in-Err-TooLong : goal.returns-in-Err-TooLong
unfolding passed
returns-in-Err-TooLong c = rw (← c.move_clock.ensures, c.in-Err-TooLong.is, c.in-Err-TooLong.field-0-is)
