-- "two moves are one of their sum": a day at a time comes to the same clock as all at once.
use mathlib.Core.Path.{◌≡◌, ◌∙◌, refl, ap}
use mathlib.Core.Bool.{Bool, true, false, cond}
use Prim.Native.Nat.{ℕ, zero, ◌+◌, ◌-◌, ◌≤◌}
use native.Mathlib.Omega.{arith}
use lib.Dec.{leb}
use borrow.Author.Tests.{le-leb}
use Rattle.calendar.specs.declared.Clock.{Clock}
use Rattle.calendar.specs.Clock.{legal_clock, after, moved}
use Rattle.calendar.proofs.Ticks.{after-legal, after-after}
use Rattle.wall_clock.specs.Wall.{or_same}

-- a clock after so many seconds; one that is none stays
abbrev pub onward : Clock → ℕ → Clock
onward c n = cond (legal_clock c) (after c n) c

pub onward-none : (c : Clock) → onward c 0 ≡ c
unfolding after
onward-none c = go (legal_clock c)
  where
    go : (b : Bool) → cond b (after c 0) c ≡ c
    go true = refl
    go false = refl

pub onward-step : (c : Clock) (n k : ℕ) → k ≤ n → k ≤ 86400 → onward (or_same c (moved c k)) (n - k) ≡ onward c n
unfolding moved
onward-step c n k h l = go (legal_clock c) refl
  where
    joined : k + (n - k) ≡ n
    joined = omega arith

    go : (b : Bool) → legal_clock c ≡ b → onward (or_same c (moved c k)) (n - k) ≡ cond b (after c n) c
    go true e = rw (e, le-leb k 86400 l, after-legal c k e) (after-after c k (n - k) ∙ ap (after c) joined)
    go false e = rw (e, e)
