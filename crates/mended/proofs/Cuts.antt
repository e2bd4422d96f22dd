-- A list with all but its first n elements zeroed.
use mathlib.Core.Path.{◌≡◌, refl, sym, ap, ◌∙◌}
use mathlib.Core.List.{List, [], ◌∷◌, ◌++◌}
use mathlib.Core.Bool.{true}
use Prim.Native.Nat.{ℕ, zero, suc, ◌-◌, ◌≤◌, ◌<◌, min}
use native.Mathlib.Omega.{arith}
use native.Mathlib.Decide.{dec_le}
use lib.ListN.{length, get_or, take, drop}
use lib.Seq.{drop-nil}
use lib.Dec.{eqb}
use borrow.Author.Tests.{eqb-true}
use Rattle.cells.specs.Count.{all_zero}
use Rattle.ground.proofs.Tests.{and_left, and_right}

abbrev pub cut : ℕ → List ℕ → List ℕ
cut n [] = []
cut zero (x ∷ l) = 0 ∷ cut zero l
cut (suc n) (x ∷ l) = x ∷ cut n l

pub length_cut : (n : ℕ) (l : List ℕ) → length (cut n l) ≡ length l
length_cut n [] = refl
length_cut zero (x ∷ l) = ap suc (length_cut zero l)
length_cut (suc n) (x ∷ l) = ap suc (length_cut n l)

pub cut_in : (n : ℕ) (l : List ℕ) (o : ℕ) → o < n → get_or (cut n l) o 0 ≡ get_or l o 0
cut_in n [] o h = refl
cut_in zero (x ∷ l) o h = absurd (omega arith)
cut_in (suc n) (x ∷ l) zero h = refl
cut_in (suc n) (x ∷ l) (suc o) h = cut_in n l o (omega arith)

pub cut_out : (n : ℕ) (l : List ℕ) (o : ℕ) → n ≤ o → get_or (cut n l) o 0 ≡ 0
cut_out n [] o h = refl
cut_out zero (x ∷ l) zero h = refl
cut_out zero (x ∷ l) (suc o) h = cut_out zero l o (omega arith)
cut_out (suc n) (x ∷ l) zero h = absurd (omega arith)
cut_out (suc n) (x ∷ l) (suc o) h = cut_out n l o (omega arith)

cut_all : (n : ℕ) (l : List ℕ) → length l ≤ n → cut n l ≡ l
cut_all n [] h = refl
cut_all zero (x ∷ l) h = absurd (omega arith)
cut_all (suc n) (x ∷ l) h = ap (λ (t : List ℕ). x ∷ t) (cut_all n l (omega arith))

pub cut-min : (n s : ℕ) (l : List ℕ) → length l ≤ n → cut (min n s) l ≡ cut s l
cut-min n s l h = elim (dec_le s n) [
  | yes k ↦ ap (λ (m : ℕ). cut m l) (let e : min n s ≡ s = omega arith in e)
  | no k ↦ cut_all (min n s) l (omega arith) ∙ sym (cut_all s l (omega arith))
]

pub cut-append : (s : ℕ) (a b : List ℕ) → cut s (a ++ b) ≡ cut s a ++ cut (s - length a) b
cut-append s [] b = ap (λ (m : ℕ). cut m b) (let e : s ≡ s - 0 = omega arith in e)
cut-append zero (x ∷ a) b = ap (λ (t : List ℕ). 0 ∷ t) (cut-append zero a b ∙ ap (λ (m : ℕ). cut zero a ++ cut m b) (let e : 0 - length a ≡ 0 - suc (length a) = omega arith in e))
cut-append (suc s) (x ∷ a) b = ap (λ (t : List ℕ). x ∷ t) (cut-append s a b ∙ ap (λ (m : ℕ). cut s a ++ cut m b) (let e : s - length a ≡ suc s - suc (length a) = omega arith in e))

pub take-cut : (s : ℕ) (l : List ℕ) → take s (cut s l) ≡ take s l
take-cut s [] = refl
take-cut zero (x ∷ l) = refl
take-cut (suc s) (x ∷ l) = ap (λ (t : List ℕ). x ∷ t) (take-cut s l)

pub zero-cut : (s : ℕ) (l : List ℕ) → all_zero (drop s (cut s l)) ≡ true
zero-cut s [] = ap all_zero (drop-nil s)
zero-cut zero (x ∷ l) = zero-cut zero l
zero-cut (suc s) (x ∷ l) = zero-cut s l

-- what is zero behind its first s elements is cut there already
pub cut-zero : (s : ℕ) (l : List ℕ) → all_zero (drop s l) ≡ true → cut s l ≡ l
cut-zero s [] h = refl
cut-zero zero (x ∷ l) h =
    let z = eqb-true x 0 (and_left (eqb x 0) (all_zero l) h) in
    (λ t. sym z t ∷ cut-zero zero l (and_right (eqb x 0) (all_zero l) h) t)
cut-zero (suc s) (x ∷ l) h = ap (λ (t : List ℕ). x ∷ t) (cut-zero s l h)
