-- Paper 02, §10: the clock is "moved by a call that gives the seconds passed".
-- Assumes nothing.
use Rattle.std.specs.Prelude.{ℕ, Result, Ok, Err}
use Rattle.calendar.specs.declared.Clock.{Clock}
use Rattle.calendar.specs.declared.Unmoved.{Unmoved}
use Rattle.calendar.specs.declared.Unmoved.TheVariants.{NoClock, TooLong}
use Rattle.calendar.specs.Clock.{moved}
use Rattle.answers.specs.declared.Answer.TheVariants.{Taken, Unsound, Limits}
use Rattle.session.specs.declared.Session.{Session}
use Rattle.session.specs.declared.Labelled.{Labelled}
use Rattle.session.specs.Session.{clocked}
use Rattle.session.specs.Label.{labelled}

-- "3 from the clock call for a bad clock, 7 for a wrong date or seconds"; a refusal changes nothing. It reads no line, so 7 points to none
abbrev pub passed_by : Session → Result Clock Unmoved → Labelled
passed_by s (Ok c) = labelled Taken (clocked s c)
passed_by s (Err NoClock) = labelled Unsound s
passed_by s (Err TooLong) = labelled (Limits 0) s

unfoldable pub passed : Session → ℕ → Labelled
passed s seconds = passed_by s (moved s.clock seconds)
