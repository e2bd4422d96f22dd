-- A number takes at most 20 digits.
use mathlib.Core.Bool.{Bool, true, false, cond}
use mathlib.Core.List.{List, [], ◌∷◌}
use Prim.Native.Nat.{ℕ, zero, suc, ◌+◌, ◌/◌, ◌%◌, ◌≤◌}
use native.Mathlib.Omega.{arith}
use lib.ListN.{length}
use lib.Dec.{ltb}
use Rattle.writing.specs.Writing.{digits, decimal}

either-short : (t : Bool) (a b : List ℕ) (n : ℕ) → length a ≤ n → length b ≤ n → length (cond t a b) ≤ n
either-short true a b n h k = h
either-short false a b n h k = k

pub digits-short : (f n : ℕ) (acc : List ℕ) → length (digits f n acc) ≤ f + 1 + length acc
unfolding digits
digits-short zero n acc = omega arith
digits-short (suc f) n acc =
    let few : length ((48 + n) ∷ acc) ≤ suc f + 1 + length acc = omega arith in
    let more : length (digits f (n / 10) ((48 + n % 10) ∷ acc)) ≤ suc f + 1 + length acc = omega (arith, digits-short f (n / 10) ((48 + n % 10) ∷ acc)) in
    either-short (ltb n 10) ((48 + n) ∷ acc) (digits f (n / 10) ((48 + n % 10) ∷ acc)) (suc f + 1 + length acc) few more

pub decimal-short : (n : ℕ) → length (decimal n) ≤ 20
decimal-short n = omega (arith, digits-short 19 n [])
