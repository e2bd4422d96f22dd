-- One turn of the loop that weighs a check symbol.
-- Assumes nothing.
use mathlib.Core.Path.{◌≡◌, ap, ◌∙◌}
use mathlib.Core.List.{List, [], ◌∷◌}
use Prim.Native.Nat.{ℕ, suc, ◌+◌, ◌*◌, ◌/◌, ◌%◌, ◌≤◌, ◌<◌}
use native.Mathlib.Nat.{mul-le-mul}
use native.Mathlib.Numerals.{add-one}
use native.Mathlib.Omega.{arith}
use lib.ListN.{length, get_or, drop, drop_of_length-le}
use lib.Seq.{drop-cons}
use Rattle.code128.specs.Code128.{weighed, check128}

-- a place may be counted modulo 103
expand : (q r x : ℕ) → (q * 103 + r) * x ≡ q * x * 103 + r * x
expand q r x = omega arith

split : (a : ℕ) → a ≡ a / 103 * 103 + a % 103
split a = omega arith

plain : (n p t m w : ℕ) → m ≡ p * 103 + t → (n % 103 + t + w) % 103 ≡ (n + (m + w)) % 103
plain n p t m w e = omega arith

modulo : (n a x w : ℕ) → (n % 103 + a % 103 * x + w) % 103 ≡ (n + (a * x + w)) % 103
modulo n a x w = plain n (a / 103 * x) (a % 103 * x) (a * x) w (ap (λ m. m * x) (split a) ∙ expand (a / 103) (a % 103) x)

-- what is weighed and what is left come to the whole
pub record Weighing (vs : List ℕ) (i sum : ℕ) : Type 0 where
  pub small : sum ≤ 26112
  pub whole : (sum + weighed i (drop i vs)) % 103 ≡ check128 vs

pub record Weighed (vs : List ℕ) (i sum x : ℕ) : Type 0 where
  pub term : i % 103 * x ≤ 26010
  pub next : Weighing vs (i + 1) (sum % 103 + i % 103 * x)

pub weighing-start : (vs : List ℕ) (x : ℕ) → x ≡ get_or vs 0 0 → x < 256 → Weighing vs 1 x
unfolding weighed check128
weighing-start [] x e b = record { small = omega arith; whole = rw e }
weighing-start (v ∷ vs) x e b = record { small = omega arith; whole = rw e }

pub weighing-step : (vs : List ℕ) (i sum x : ℕ) → i < length vs → Weighing vs i sum → x ≡ get_or vs i 0 → x < 256 → Weighed vs i sum x
unfolding weighed
weighing-step vs i sum x h t e b =
    let a : i % 103 ≤ 102 = omega arith in
    let m : i % 103 * x ≤ 26010 = mul-le-mul {n₂ = 102} {m₂ = 255} a (omega arith) in
    let w = rw (drop-cons vs i 0 h, ← e) at t.whole in
    record {
      term = m;
      next = record {
        small = omega arith;
        whole = ap (λ d. (sum % 103 + i % 103 * x + weighed (i + 1) (drop d vs)) % 103) (add-one i) ∙ modulo sum i x (weighed (i + 1) (drop (suc i) vs)) ∙ w;
      };
    }

pub weighing-done : (vs : List ℕ) (i sum : ℕ) → length vs ≤ i → Weighing vs i sum → sum % 103 ≡ check128 vs
unfolding weighed
weighing-done vs i sum h t = let w = rw (drop_of_length-le vs h) at t.whole in ap (λ n. n % 103) (let z : sum ≡ sum + 0 = omega arith in z) ∙ w
