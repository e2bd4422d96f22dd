-- "A refusal leaves session and all lent memory unchanged": a clock call that is refused keeps the session.
-- Assumes nothing.
use mathlib.Core.Path.{◌≡◌, refl}
use mathlib.Core.Bool.{true, false, true≢false}
use Prim.Native.Nat.{ℕ}
use Rattle.std.proofs.Common.{Result, Ok, Err}
use Rattle.calendar.specs.declared.Clock.{Clock}
use Rattle.calendar.specs.declared.Unmoved.{Unmoved}
use Rattle.calendar.specs.declared.Unmoved.TheVariants.{NoClock, TooLong}
use Rattle.calendar.specs.Clock.{moved}
use Rattle.answers.specs.Answers.{is_taken, number_of}
use Rattle.session.specs.declared.Session.{Session}
use Rattle.session.specs.Label.{labelled}
use Rattle.clock_call.specs.Passing.{passed_by, passed}

kept_by : (s : Session) (m : Result Clock Unmoved) → is_taken (passed_by s m).answer ≡ false → passed_by s m ≡ labelled (passed_by s m).answer s
unfolding is_taken number_of
kept_by s (Ok c) h = absurd (true≢false h)
kept_by s (Err NoClock) h = refl
kept_by s (Err TooLong) h = refl

pub clock-refusal-keeps : (s : Session) (n : ℕ) → is_taken (passed s n).answer ≡ false → passed s n ≡ labelled (passed s n).answer s
unfolding passed
clock-refusal-keeps s n h = kept_by s (moved s.clock n) h
