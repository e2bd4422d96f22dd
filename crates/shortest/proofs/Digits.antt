-- Two digits, in numbers.
-- Assumes nothing.
use mathlib.Core.Path.{◌≡◌}
use mathlib.Core.Bool.{true}
use Prim.Native.Nat.{ℕ, ◌≤◌}
use Rattle.ground.proofs.Tests.{and-true}
use Rattle.kinds.specs.Bytes.{is_digit}
use Rattle.kinds.proofs.Laws.{between-facts}
use Rattle.shortest.specs.Found.{two}

pub record Digits (a b : ℕ) : Type 0 where
  pub first : is_digit a ≡ true
  pub second : is_digit b ≡ true
  pub above : (48 ≤ a) × (48 ≤ b)
  pub below : (a ≤ 57) × (b ≤ 57)

pub digits : (a b : ℕ) → two a b ≡ true → Digits a b
digits a b h =
    let k = and-true (is_digit a) (is_digit b) h in
    let x = between-facts 48 57 a k.0 in
    let y = between-facts 48 57 b k.1 in
    record { first = k.0; second = k.1; above = (x.0, y.0); below = (x.1, y.1) }
