-- What a clock call leaves: it changes nothing but the clock.
-- Assumes nothing.
use mathlib.Core.Path.{◌≡◌, refl, ap, ◌∙◌}
use Prim.Native.Nat.{ℕ}
use Rattle.std.proofs.Common.{Result, Ok, Err}
use Rattle.calendar.specs.declared.Clock.{Clock}
use Rattle.calendar.specs.declared.Unmoved.{Unmoved}
use Rattle.calendar.specs.declared.Unmoved.TheVariants.{NoClock, TooLong}
use Rattle.calendar.specs.Clock.{moved}
use Rattle.session.specs.declared.Session.{Session}
use Rattle.session.specs.Session.{clocked}
use Rattle.clock_call.specs.Passing.{passed, passed_by}

-- what does not go by the clock stays
pub passed-keeps : {A : Type 0} (f : Session → A) (s : Session) (n : ℕ) → ((c : Clock) → f (clocked s c) ≡ f s) → f (passed s n).session ≡ f s
unfolding passed
passed-keeps {A} f s n h = go (moved s.clock n)
  where
    go : (m : Result Clock Unmoved) → f (passed_by s m).session ≡ f s
    go (Ok c) = h c
    go (Err NoClock) = refl
    go (Err TooLong) = refl

-- a change of the session that leaves the clock, before a clock call or behind it
pub passed-in :
    (f : Session → Session) (s : Session) (n : ℕ) → (f s).clock ≡ s.clock → ((c : Clock) → clocked (f s) c ≡ f (clocked s c)) →
    (passed (f s) n).session ≡ f (passed s n).session
unfolding passed
passed-in f s n e h = ap (λ (c : Clock). (passed_by (f s) (moved c n)).session) e ∙ go (moved s.clock n)
  where
    go : (m : Result Clock Unmoved) → (passed_by (f s) m).session ≡ f (passed_by s m).session
    go (Ok c) = h c
    go (Err NoClock) = refl
    go (Err TooLong) = refl
