-- Powers of ten, the digits of a counter as a loop writes them, and a value entered.
use Rattle.std.proofs.Common.{Ok, Err}
use mathlib.Core.Path.{◌≡◌, refl, ap, ◌∙◌}
use mathlib.Core.List.{List, [], ◌∷◌, ◌++◌}
use Prim.Native.Nat.{ℕ, zero, suc, ◌+◌, ◌-◌, ◌*◌, ◌/◌, ◌%◌, ◌^◌, ◌≤◌, ◌<◌, min}
use native.Mathlib.Nat.{pow-le-pow_right, pow-zero, pow-suc, div-one, mul_comm, div-div-eq-div-mul}
use native.Mathlib.Numerals.{add-one}
use native.Mathlib.Omega.{arith}
use lib.ListN.{length, set, replicate}
use lib.Seq.{sets}
use borrow.Author.Tests.{lt-ltb, le-ltb}
use Rattle.ground.proofs.Stores.{sets_last}
use Rattle.declarations.specs.declared.Declared.{Declared}
use Rattle.counters.specs.declared.Counters.{Counters}
use Rattle.declarations.specs.declared.Refused.TheVariants.{Undeclared, Unfit}
use Rattle.declarations.specs.Declarations.{width_at}
use Rattle.counters.specs.Counters.{ten_to, digits, digits_of, counters, counter_entered}

pub ten-is : (w : ℕ) → w ≤ 9 → ten_to w ≡ 10 ^ w
unfolding ten_to
ten-is w h = ap (λ (k : ℕ). 10 ^ k) (let e : min w 9 ≡ w = omega arith in e)

pub ten-small : (w : ℕ) → ten_to w ≤ 1000000000
unfolding ten_to
ten-small w = pow-le-pow_right {n = 10} (omega arith) {i = min w 9} {j = 9} (omega arith)

-- ---- worked out, one factor after another

-- one factor more is below 2^32
pub power_small : (power i : ℕ) → power ≡ 10 ^ i → i < 9 → power ≤ 100000000
power_small power i e h = rw e (pow-le-pow_right {n = 10} (omega arith) {i = i} {j = 8} (omega arith))

pub power-next : (power i : ℕ) → power ≡ 10 ^ i → power * 10 ≡ 10 ^ (i + 1)
power-next power i e = rw (e, add-one, pow-suc)

pub power-done : (power i w : ℕ) → power ≡ 10 ^ i → i ≡ min w 9 → power ≡ ten_to w
unfolding ten_to
power-done power i w e q = rw (e, q)

-- ---- digits, the last one first

pub length_digits : (w n : ℕ) → length (digits w n) ≡ w
unfolding digits
length_digits zero n = refl
length_digits (suc w) n = ap suc (length_digits w n)

-- the last digit is n's rest by ten, those before it are the digits of a tenth of n
digits_last : (w n : ℕ) → digits (suc w) n ≡ digits w (n / 10) ++ ((48 + n % 10) ∷ [])
unfolding digits
digits_last zero n = rw (pow-zero, div-one)
digits_last (suc w) n = rw (← digits_last w n, pow-suc, mul_comm (10 ^ w) 10, ← div-div-eq-div-mul n 10 (10 ^ w))

pub digits-start : (n w width : ℕ) → width ≡ min w 9 → sets (replicate 9 0) 0 (digits width n) ≡ digits_of n w
unfolding digits_of
digits-start n w width e = rw e

pub digits-next : (out : List ℕ) (rest left : ℕ) → 0 < left
    → sets (set out (left - 1) (rest % 10 + 48)) 0 (digits (left - 1) (rest / 10)) ≡ sets out 0 (digits left rest)
digits-next out rest left h = go left (left - 1) (omega arith)
  where
    turn : (x : ℕ) → x % 10 + 48 ≡ 48 + x % 10
    turn x = omega arith

    go : (a b : ℕ) → a ≡ suc b → sets (set out b (rest % 10 + 48)) 0 (digits b (rest / 10)) ≡ sets out 0 (digits a rest)
    go a b p = let before = digits b (rest / 10) in let last = 48 + rest % 10 in
        rw (p, turn, digits_last b rest)
        (ap (λ (k : ℕ). sets (set out k last) 0 before) (let e : b ≡ 0 + length before = omega (arith, length_digits b (rest / 10)) in e)
        ∙ sets_last out 0 before last)

pub digits-none : (out : List ℕ) (rest left : ℕ) → left ≤ 0 → sets out 0 (digits left rest) ≡ out
unfolding digits
digits-none out rest left h = go left (omega arith)
  where
    go : (a : ℕ) → a ≡ 0 → sets out 0 (digits a rest) ≡ out
    go a p = rw p

-- ---- a value entered

module _ (d : Declared) (c : Counters) (n v : ℕ) where
  pub entered-undeclared : width_at d n < 1 → Err Undeclared ≡ counter_entered d c n v
  unfolding counter_entered
  entered-undeclared h = rw (le-ltb 0 (width_at d n) (omega arith))

  pub entered-unfit : 1 ≤ width_at d n → ten_to (width_at d n) ≤ v → Err Unfit ≡ counter_entered d c n v
  unfolding counter_entered
  entered-unfit h k = rw (lt-ltb 0 (width_at d n) (omega arith), le-ltb v (ten_to (width_at d n)) k)

  pub entered-taken : 1 ≤ width_at d n → v < ten_to (width_at d n) → Ok (counters (set c.set n 1) (set c.value n v)) ≡ counter_entered d c n v
  unfolding counter_entered
  entered-taken h k = rw (lt-ltb 0 (width_at d n) (omega arith), lt-ltb v (ten_to (width_at d n)) k)
