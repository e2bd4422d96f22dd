-- Clock and formats that are sound: those of an opening, and what a TS, a clock call, a TD and a TT make of them.
-- Assumes nothing.
use mathlib.Core.Path.{◌≡◌}
use mathlib.Core.Bool.{true}
use Rattle.ground.proofs.Tests.{and_left, and_right}
use Rattle.calendar.specs.declared.Clock.{Clock}
use Rattle.calendar.specs.Clock.{legal_clock, fresh}
use Rattle.calendar.proofs.Clocks.{fresh-legal}
use Rattle.formats.specs.declared.Format.{Format}
use Rattle.formats.specs.declared.Formats.{Formats}
use Rattle.formats.specs.declared.Stamp.{Stamp}
use Rattle.formats.specs.Formats.{legal_format, legal_formats, with_format, examples}
use Rattle.formats.proofs.Legality.{with-legal, examples-legal}
use Rattle.sound.specs.Sound.{times_ok}

-- "unset, the clock is 1 January 2000 at midnight and the formats are the manual's example formats"
pub fresh-times : times_ok fresh examples ≡ true
unfolding times_ok
fresh-times = rw (fresh-legal, examples-legal)

pub times-clock : (c : Clock) (fs : Formats) → times_ok c fs ≡ true → legal_clock c ≡ true
unfolding times_ok
times-clock c fs h = and_left (legal_clock c) (legal_formats fs) h

-- another clock, which is a date and a time
pub times-at : (c c' : Clock) (fs : Formats) → times_ok c fs ≡ true → legal_clock c' ≡ true → times_ok c' fs ≡ true
unfolding times_ok
times-at c c' fs h l = rw (l, and_right (legal_clock c) (legal_formats fs) h)

-- another format, which is one
pub times-with :
    (c : Clock) (fs : Formats) (st : Stamp) (f : Format) → times_ok c fs ≡ true → legal_format st f ≡ true → times_ok c (with_format fs st f) ≡ true
unfolding times_ok
times-with c fs st f h l = rw (and_left (legal_clock c) (legal_formats fs) h, with-legal fs st f (and_right (legal_clock c) (legal_formats fs) h) l)
