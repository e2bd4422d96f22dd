-- Laws on numbers, cited by the functions' proofs.
use Rattle.std.specs.Prelude.{Result, Ok, Err}
use mathlib.Core.Path.{◌≡◌, ◌∙◌, refl, sym, ap}
use Prim.Native.Char.{code}
use mathlib.Core.Bool.{Bool, true, false, cond, ◌&&◌, and-false}
use mathlib.Core.List.{List, [], ◌∷◌}
use Prim.Native.Nat.{ℕ, suc, ◌+◌, ◌-◌, ◌*◌, ◌^◌, ◌≤◌, ◌<◌}
use native.Mathlib.Nat.{pow-suc, pow-le-pow_right, mul-le-mul_right, mul_assoc, mul_comm}
use native.Mathlib.Numerals.{add-one}
use native.Mathlib.Omega.{arith}
use lib.Dec.{leb, eqb, lit<}
use lib.ListN.{length, get_or, length-take}
use lib.Seq.{drop-cons}
use borrow.Author.Tests.{le-leb, lt-leb, leb-true}
use Rattle.classes.specs.KindsBytes.{between}
use Rattle.classes.specs.Bytes.{part, run_at}
use Rattle.classes.specs.declared.Class.TheVariants.{Digit}
use Rattle.classes.proofs.Laws.{in-range-high, run_room}
use Rattle.fields.proofs.Laws.{Ends}
use Rattle.numbers.specs.Number.{digit_of, value_from, number_at, signed_at, behind_sign, plus, minus, Small}

-- a digit is at most 9
pub digit-small : (b : ℕ) → digit_of b ≤ 9
digit-small b = go (between (code "0") (code "9") b) refl
  where
    go : (t : Bool) → between (code "0") (code "9") b ≡ t → cond t (b - code "0") 0 ≤ 9
    go true e = let h = in-range-high (code "0") (code "9") b e in omega arith
    go false e = omega arith

-- one digit more
pub value-more : (v : ℕ) (s : List ℕ) (i e : ℕ) → i < e → e ≤ length s
    → value_from v (part s i (e - i)) ≡ value_from (v * 10 + digit_of (get_or s i 0)) (part s (i + 1) (e - (i + 1)))
unfolding value_from
value-more v s i e h k =
    let n : e - i ≡ suc (e - suc i) = omega arith in
    let l : i < length s = omega arith in
    rw (add-one, n, drop-cons s i 0 l)

pub value-end : (v : ℕ) (s : List ℕ) (i e : ℕ) → e ≤ i → value_from v (part s i (e - i)) ≡ v
unfolding value_from
value-end v s i e h = let n : e - i ≡ 0 = omega arith in rw n

-- n digits write a number below 10 ^ n
pub value-grows : (v d n : ℕ) → v < 10 ^ n → d ≤ 9 → v * 10 + d < 10 ^ (n + 1)
value-grows v d n k l = rw (add-one, pow-suc 10 n) (omega arith)

pub value-below : (v d at i : ℕ) → at ≤ i → v < 10 ^ (i - at) → d ≤ 9 → v * 10 + d < 10 ^ (i + 1 - at)
value-below v d at i h k l = let n : i + 1 - at ≡ i - at + 1 = omega arith in rw n (value-grows v d (i - at) k l)

pub value_none : (at : ℕ) → 0 < 10 ^ (at - at)
value_none at = let n : at - at ≡ 0 = omega arith in rw n (lit< tt)

pub value-fits : (m v n : ℕ) → v < 10 ^ n → n ≤ m → v < 10 ^ m
value-fits m v n h k = let p : 10 ^ n ≤ 10 ^ m = pow-le-pow_right (lit< tt) k in omega arith

module _ (s : List ℕ) (at e : ℕ) (h : e ≡ at + run_at Digit s at) where
  pub number-none : e ≤ at → number_at s at ≡ Err at
  unfolding number_at
  number-none k = let n : run_at Digit s at ≡ 0 = omega arith in rw n

  pub number-long : 9 < e - at → number_at s at ≡ Err at
  unfolding number_at
  number-long k = simp (lt-leb (run_at Digit s at) 9 (omega arith), and-false)

  pub number_is : at < e → e - at ≤ 9 → number_at s at ≡ Ok (value_from 0 (part s at (e - at)), e)
  unfolding number_at
  number_is k l =
      let n : run_at Digit s at ≡ e - at = omega arith in
      let m : at + (e - at) ≡ e = omega arith in
      rw (n, le-leb 1 (e - at) (omega arith), le-leb (e - at) 9 l, m)

-- where there is no number, its place is at fault
pub number_fault : (s : List ℕ) (at p : ℕ) → number_at s at ≡ Err p → p ≡ at
unfolding number_at
number_fault s at p = go (leb 1 (run_at Digit s at) && leb (run_at Digit s at) 9)
  where
    go : (t : Bool) → ◌≡◌ {A = Result (ℕ × ℕ) ℕ} (cond t (Ok (value_from 0 (part s at (run_at Digit s at)), at + run_at Digit s at)) (Err at)) (Err p) → p ≡ at
    go true e = absurd (let z : ◌≡◌ {A = ℕ} 0 1 = cc in omega arith)
    go false e = cc

-- n digits after v
value-limit : (l : List ℕ) (v : ℕ) → value_from v l < (v + 1) * 10 ^ length l
unfolding value_from
value-limit [] v = omega arith
value-limit (d ∷ ds) v =
    let r = value-limit ds (v * 10 + digit_of d) in
    let k : v * 10 + digit_of d + 1 ≤ (v + 1) * 10 = omega (arith, digit-small d) in
    let m : (v * 10 + digit_of d + 1) * 10 ^ length ds ≤ (v + 1) * 10 * 10 ^ length ds = mul-le-mul_right (10 ^ length ds) k in
    let e : (v + 1) * 10 * 10 ^ length ds ≡ (v + 1) * 10 ^ suc (length ds) =
    mul_assoc (v + 1) 10 (10 ^ length ds) ∙ ap (λ x. (v + 1) * x) (mul_comm 10 (10 ^ length ds) ∙ sym (pow-suc 10 (length ds))) in
    rw (← e) (omega arith)

-- a number is below 1,000,000,000, and takes some bytes of the line
pub number_small : (s : List ℕ) (at : ℕ) → Small (number_at s at)
unfolding number_at
number_small s at = go (leb 1 (run_at Digit s at)) (leb (run_at Digit s at) 9) refl
  where
    go : (a b : Bool) → leb (run_at Digit s at) 9 ≡ b
        → Small (cond (a && b) (Ok (value_from 0 (part s at (run_at Digit s at)), at + run_at Digit s at)) (Err at))
    go true true e =
        let n : ℕ = run_at Digit s at in
        let l : length (part s at n) ≤ 9 = simp length-take (omega (arith, leb-true n 9 e)) in
        let v = value-limit (part s at n) 0 in
        let p : 10 ^ length (part s at n) ≤ 10 ^ 9 = pow-le-pow_right (lit< tt) l in
        omega arith
    go true false e = tt
    go false b e = tt

pub number-ends : (s : List ℕ) (at : ℕ) → Ends s at (number_at s at)
unfolding number_at
number-ends s at = go (leb 1 (run_at Digit s at)) (leb (run_at Digit s at) 9) refl
  where
    go : (a b : Bool) → leb 1 (run_at Digit s at) ≡ a
        → Ends s at (cond (a && b) (Ok (value_from 0 (part s at (run_at Digit s at)), at + run_at Digit s at)) (Err at))
    go true true e = let l = leb-true 1 (run_at Digit s at) e in let r = run_room Digit s at in (omega arith, omega arith)
    go true false e = tt
    go false b e = tt

-- ---- behind a sign

-- a number behind a sign is below 1,000,000,000
pub behind-small : (s : List ℕ) (at : ℕ) → Small (behind_sign s at (number_at s (at + 1)))
behind-small s at = go (number_at s (at + 1)) (number_small s (at + 1))
  where
    go : (f : Result (ℕ × ℕ) ℕ) → Small f → Small (behind_sign s at f)
    go (Ok (v, e)) h = h
    go (Err p) h = tt

-- a number with a sign that is read is the number behind its sign
pub signed-found : (s : List ℕ) (at v e : ℕ) → signed_at s at ≡ Ok (v, e)
    → cond (eqb (get_or s at 0) (code "+")) (plus (number_at s (at + 1)))
    (cond (eqb (get_or s at 0) (code "-")) (minus (number_at s (at + 1)))
    (plus (number_at s at)))
    ≡ Ok (v, e)
unfolding signed_at
signed-found s at v e h = go (eqb (get_or s at 0) (code "+")) (eqb (get_or s at 0) (code "-")) (number_at s (at + 1)) h
  where
    go : (a b : Bool) (f : Result (ℕ × ℕ) ℕ) → cond a (plus (behind_sign s at f)) (cond b (minus (behind_sign s at f)) (plus (number_at s at))) ≡ Ok (v, e)
        → cond a (plus f) (cond b (minus f) (plus (number_at s at))) ≡ Ok (v, e)
    go a b (Ok (w, d)) k = k
    go true b (Err p) k = absurd (let z : ◌≡◌ {A = ℕ} 0 1 = cc in omega arith)
    go false true (Err p) k = absurd (let z : ◌≡◌ {A = ℕ} 0 1 = cc in omega arith)
    go false false (Err p) k = k
