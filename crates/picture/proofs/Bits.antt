-- The dots of bytes that are cut and turned over: each rule computed at each byte.
-- Assumes nothing.
use mathlib.Core.Path.{◌≡◌, refl}
use mathlib.Core.Bool.{Bool, true}
use Prim.Native.Nat.{ℕ, ◌-◌, ◌/◌, ◌^◌, ◌≤◌, ◌<◌}
use native.Mathlib.Omega.{arith}
use lib.Bits.{bit_and}
use lib.Dec.{eqb}
use borrow.Author.Tests.{eqb-true}
use Rattle.dots.specs.Dots.{bit_of}
use Rattle.dots.proofs.Bits.{all_below, all-below}
use Rattle.picture.specs.Steps.{dark_byte}

-- the black dots among the first n of a byte
dark : ℕ → ℕ → Bool
dark n v = eqb (bit_and (255 - v) (255 - 255 / 2 ^ n)) (dark_byte v n)

all-dark : all_below 9 (λ n. all_below 256 (dark n)) ≡ true
unfolding dark
all-dark = refl

pub dark-says : (v n : ℕ) → v < 256 → n ≤ 8 → bit_and (255 - v) (255 - 255 / 2 ^ n) ≡ dark_byte v n
unfolding dark
dark-says v n h k = eqb-true _ _ (all-below 256 (dark n) (all-below 9 (λ n. all_below 256 (dark n)) all-dark n (omega arith)) v h)

all_white : all_below 8 (bit_of 255) ≡ true
all_white = refl

pub white-bit : (k : ℕ) → k < 8 → bit_of 255 k ≡ true
white-bit k h = all-below 8 (bit_of 255) all_white k h
