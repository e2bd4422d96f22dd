-- One turn of the loop that weighs a check digit.
-- Assumes nothing.
use mathlib.Core.Path.{◌≡◌, ap, ◌∙◌}
use mathlib.Core.List.{List}
use Prim.Native.Nat.{ℕ, suc, ◌+◌, ◌-◌, ◌*◌, ◌%◌, ◌≤◌, ◌<◌}
use native.Mathlib.Nat.{mul-le-mul}
use native.Mathlib.Numerals.{add-one}
use native.Mathlib.Omega.{arith}
use lib.ListN.{length, get_or, drop, length-drop, drop_of_length-le}
use lib.Seq.{drop-cons}
use Rattle.symbols.specs.Elements.{weights, check_digit}

-- what is summed may be counted modulo 10
modulo : (n t w : ℕ) → (n % 10 + t + w) % 10 ≡ (n + (t + w)) % 10
modulo n t w = omega arith

-- what is summed and what is left come to the whole
pub record Summing (s : List ℕ) (i sum : ℕ) : Type 0 where
  pub below : i ≤ length s
  pub small : sum ≤ 774
  pub whole : (sum + weights (drop i s)) % 10 ≡ weights s % 10

pub record Summed (s : List ℕ) (i sum x : ℕ) : Type 0 where
  pub term : (3 - 2 * ((length s - i - 1) % 2)) * x ≤ 765
  pub next : Summing s (i + 1) (sum % 10 + (3 - 2 * ((length s - i - 1) % 2)) * x)

pub summing_start : (s : List ℕ) → Summing s 0 0
summing_start s = record { below = omega arith; small = omega arith; whole = ap (λ n. n % 10) (let z : 0 + weights s ≡ weights s = omega arith in z) }

pub summing-step : (s : List ℕ) (i sum x : ℕ) → i < length s → Summing s i sum → x ≡ get_or s i 0 - 48 → x ≤ 255 → Summed s i sum x
unfolding weights
summing-step s i sum x h t e b =
    let a : 3 - 2 * ((length s - i - 1) % 2) ≤ 3 = omega arith in
    let m : (3 - 2 * ((length s - i - 1) % 2)) * x ≤ 765 = mul-le-mul {n₂ = 3} {m₂ = 255} a b in
    let l : length (drop (suc i) s) ≡ length s - i - 1 = length-drop (suc i) s ∙ omega arith in
    let w = rw (drop-cons s i 0 h, ← e, l) at t.whole in
    record {
      term = m;
      next = record {
        below = omega arith;
        small = omega arith;
        whole = ap (λ d. (sum % 10 + (3 - 2 * ((length s - i - 1) % 2)) * x + weights (drop d s)) % 10) (add-one i)
            ∙ modulo sum ((3 - 2 * ((length s - i - 1) % 2)) * x) (weights (drop (suc i) s)) ∙ w;
      };
    }

pub summing-done : (s : List ℕ) (i sum : ℕ) → length s ≤ i → Summing s i sum → (10 - sum % 10) % 10 ≡ check_digit s
unfolding weights check_digit
summing-done s i sum h t =
    let w = rw (drop_of_length-le s h) at t.whole in
    ap (λ n. (10 - n) % 10) (ap (λ n. n % 10) (let z : sum ≡ sum + 0 = omega arith in z) ∙ w)
