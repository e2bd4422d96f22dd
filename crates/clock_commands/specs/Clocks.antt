-- TS: what it does. Nothing refuses it.
-- Assumes nothing.
use Rattle.std.specs.Prelude.{ℕ, min, []}
use Rattle.calendar.specs.declared.Clock.{Clock}
use Rattle.calendar.specs.Clock.{clock}
use Rattle.grammar.specs.declared.SetClock.{SetClock}
use Rattle.session.specs.declared.Session.{Session}
use Rattle.session.specs.Session.{clocked}
use Rattle.answers.specs.declared.Answer.TheVariants.{Taken}
use Rattle.lent.specs.Lent.{World}
use Rattle.results.specs.World.{State, state}
use Rattle.results.specs.Result.{done, Ran, ran}

-- a number as the clock keeps it, of 8 bits: every number within its limits is
abbrev pub eight_bits : ℕ → ℕ
eight_bits n = min n 255

-- the date and the time that a TS says
abbrev pub clock_said : SetClock → Clock
clock_said c = clock (eight_bits c.year) (eight_bits c.month) (eight_bits c.day) (eight_bits c.hour) (eight_bits c.minute) (eight_bits c.second)

-- "The clock is set by TS"
abbrev pub clock_runs : World → Session → SetClock → State
clock_runs w s c = state (clocked s (clock_said c)) w

-- what it leaves
abbrev pub clock_by : World → Session → SetClock → Ran
clock_by w s c = ran (done Taken (clock_runs w s c).session 0) (clock_runs w s c).world []
