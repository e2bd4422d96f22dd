-- The elements of EAN-13 as the code writes them. Assumes nothing.
use mathlib.Core.Path.{◌≡◌, refl, sym, ap, ◌∙◌}
use mathlib.Core.Bool.{Bool, true, false, cond}
use mathlib.Core.List.{List, [], ◌∷◌, ◌++◌}
use Prim.Native.Nat.{ℕ, ◌+◌, ◌-◌, ◌*◌, ◌≤◌, ◌<◌}
use native.Mathlib.Numerals.{add-one}
use native.Mathlib.Omega.{arith}
use borrow.Author.Tests.{eq-eqb, ne_eqb}
use lib.Dec.{eqb}
use lib.ListN.{length, get_or, drop, length-append, length-drop, drop_of_length-le, get_or-append}
use lib.Seq.{sets, length-sets, drop-cons, get_or-append-add}
use Rattle.ground.proofs.Stores.{sets-append}
use Rattle.symbols.specs.Tables.{rows_a, rows_b, rows_set}
use Rattle.code128.specs.Widths.{digits}
use Rattle.symbols.specs.Elements.{check_digit, checked, pattern_row, pattern, patterns, sets_of, elements_ean}
use Rattle.symbols.specs.Laid.{Put}
use Rattle.symbols.proofs.Lists.{length_digits, put-digits, put_all, put-more}
use Rattle.code128.proofs.Tables.{past-rows}

-- ---- rows

none_in : (t : Bool) (v w : ℕ) → 10 ≤ v → v ≡ w → 0 ≡ get_or (cond t rows_b rows_a) w 0
unfolding rows_a rows_b
none_in true v w h e = past-rows rows_b v w h e
none_in false v w h e = past-rows rows_a v w h e

pub row-none : (set b v : ℕ) → 10 ≤ v → v ≡ b - 48 → 0 ≡ pattern_row set b
unfolding pattern_row
row-none set b v h e = none_in (eqb set 2) v (b - 48) h e

pub row-B : (set b v : ℕ) → set ≡ 2 → v ≡ b - 48 → get_or rows_b v 0 ≡ pattern_row set b
unfolding pattern_row
row-B set b v h e = rw (eq-eqb set 2 h) (ap (λ k. get_or rows_b k 0) e)

pub row-A : (set b v : ℕ) → (set ≡ 2 → ⊥) → v ≡ b - 48 → get_or rows_a v 0 ≡ pattern_row set b
unfolding pattern_row
row-A set b v h e = rw (ne_eqb set 2 h) (ap (λ k. get_or rows_a k 0) e)

-- ---- the digits and the check digit

pub check-small : (s : List ℕ) → check_digit s ≤ 9
unfolding check_digit
check-small s = omega arith

length-checked : (s : List ℕ) → length (checked s) ≡ length s + 1
unfolding checked
length-checked s = length-append s ((48 + check_digit s) ∷ [])

pub checked-front : (s : List ℕ) (q : ℕ) → q < length s → get_or s q 0 ≡ get_or (checked s) q 0
unfolding checked
checked-front s q h = sym (get_or-append s ((48 + check_digit s) ∷ []) 0 q h)

pub checked-last : (s : List ℕ) (q c : ℕ) → length s ≤ q → q ≤ length s → c ≡ check_digit s → 48 + c ≡ get_or (checked s) q 0
unfolding checked
checked-last s q c h i e =
    let at : q ≡ length s + 0 = omega arith in
    ap (λ k. 48 + k) e ∙ sym (ap (λ k. get_or (s ++ ((48 + check_digit s) ∷ [])) k 0) at ∙ get_or-append-add s ((48 + check_digit s) ∷ []) 0 0)

-- ---- `patterns`, along two lists

length-pattern : (p b : ℕ) → length (pattern p b) ≡ 4
unfolding pattern
length-pattern p b = length_digits 4 (pattern_row p b)

patterns-more : (ps cs : List ℕ) (i j : ℕ) → i < length ps → j < length cs
    → patterns (drop i ps) (drop j cs) ≡ pattern (get_or ps i 0) (get_or cs j 0) ++ patterns (drop (i + 1) ps) (drop (j + 1) cs)
unfolding patterns
patterns-more ps cs i j h k = rw (add-one i, add-one j, drop-cons ps i 0 h, drop-cons cs j 0 k)

patterns-end : (ps cs : List ℕ) (i : ℕ) → length ps ≤ i → patterns (drop i ps) cs ≡ []
unfolding patterns
patterns-end ps cs i h = rw (drop_of_length-le ps h)

length-patterns : (ps cs : List ℕ) → length ps ≤ length cs → length (patterns ps cs) ≡ 4 * length ps
unfolding patterns
length-patterns [] cs h = refl
length-patterns (p ∷ ps) [] h = absurd (omega arith)
length-patterns (p ∷ ps) (b ∷ cs) h = length-append (pattern p b) (patterns ps cs) ∙ omega (arith, length-pattern p b, length-patterns ps cs (omega arith))

-- ---- the loop over the digits of a half

pub record Halving (ps s : List ℕ) (q at : ℕ) (l₀ l : List ℕ) (i : ℕ) : Type 0 where
  pub below : i ≤ length ps
  pub long : length l ≡ length l₀
  pub whole : sets l (4 * i + at) (patterns (drop i ps) (drop (q + i) (checked s))) ≡ sets l₀ at (patterns ps (drop q (checked s)))

pub halving-start : (ps s : List ℕ) (q at : ℕ) (l : List ℕ) → Halving ps s q at l l 0
halving-start ps s q at l =
    let none : q + 0 ≡ q = omega arith in
    let first : 4 * 0 + at ≡ at = omega arith in
    record {
      below = omega arith;
      long = refl;
      whole = ap (λ k. sets l k (patterns ps (drop (q + 0) (checked s)))) first ∙ ap (λ k. sets l at (patterns ps (drop k (checked s)))) none;
    }

pub halving-step : (ps s : List ℕ) (q at : ℕ) (l₀ l l' : List ℕ) (i w r b : ℕ) → i < length ps → q + length ps ≤ length s + 1 → Halving ps s q at l₀ l i
    → w ≡ r → r ≡ pattern_row (get_or ps i 0) b → b ≡ get_or (checked s) (q + i) 0 → l' ≡ sets l (4 * i + at) (digits 4 w) → Halving ps s q at l₀ l' (i + 1)
unfolding pattern
halving-step ps s q at l₀ l l' i w r b h n v e f g p =
    let cs = checked s in
    let ws = pattern (get_or ps i 0) (get_or cs (q + i) 0) in
    let in-cs : q + i < length cs = omega (arith, length-checked s) in
    let next : 4 * (i + 1) + at ≡ 4 * i + at + length ws = omega (arith, length-pattern (get_or ps i 0) (get_or cs (q + i) 0)) in
    let row : l' ≡ sets l (4 * i + at) ws = p ∙ ap (λ k. sets l (4 * i + at) (digits 4 k)) (e ∙ f ∙ ap (pattern_row (get_or ps i 0)) g) in
    let on : q + i + 1 ≡ q + (i + 1) = omega arith in
    let rest = patterns (drop (i + 1) ps) (drop (q + (i + 1)) cs) in
    let more : patterns (drop i ps) (drop (q + i) cs) ≡ ws ++ rest =
    patterns-more ps cs i (q + i) h in-cs ∙ ap (λ k. ws ++ patterns (drop (i + 1) ps) (drop k cs)) on in
    record {
      below = omega arith;
      long = ap length row ∙ length-sets l (4 * i + at) ws ∙ v.long;
      whole = ap (λ k. sets k (4 * (i + 1) + at) rest) row ∙ ap (λ k. sets (sets l (4 * i + at) ws) k rest) next
          ∙ sym (sets-append l (4 * i + at) ws rest) ∙ ap (sets l (4 * i + at)) (sym more) ∙ v.whole;
    }

pub halving-done : (ps s : List ℕ) (q at : ℕ) (l₀ l : List ℕ) (i : ℕ) → length ps ≤ i → Halving ps s q at l₀ l i → l ≡ sets l₀ at (patterns ps (drop q (checked s)))
halving-done ps s q at l₀ l i h v = rw (patterns-end ps (drop (q + i) (checked s)) i h) at v.whole

-- ---- guard, left half, centre, right half, guard: what stands in the list after each
pub filled-ean : (s ps l0 l1 l2 l3 l4 l5 : List ℕ) (w r q5 : ℕ) → length s ≡ 12 → w ≡ r → r ≡ get_or rows_set (get_or s 0 0 - 48) 0
    → ps ≡ sets (0 ∷ 0 ∷ 0 ∷ 0 ∷ 0 ∷ 0 ∷ []) 0 (digits 6 w)
    → l1 ≡ sets l0 0 (digits 3 111) → l2 ≡ sets l1 3 (patterns ps (drop 1 (checked s)))
    → l3 ≡ sets l2 27 (digits 5 11111) → l4 ≡ sets l3 32 (patterns (3 ∷ 3 ∷ 3 ∷ 3 ∷ 3 ∷ 3 ∷ []) (drop 7 (checked s)))
    → (q5 ≡ 56 + 3) × (l5 ≡ sets l4 56 (digits 3 111)) → Put (elements_ean s) 0 l0 l5 q5
unfolding elements_ean digits sets_of
filled-ean s ps l0 l1 l2 l3 l4 l5 w r q5 n e f p0 p1 p2 p3 p4 p5 =
    let which : ps ≡ sets_of s = p0 ∙ ap (digits 6) (e ∙ f) in
    let first : 6 ≤ length (drop 1 (checked s)) = simp length-drop (omega (arith, length-checked s)) in
    let second : 6 ≤ length (drop 7 (checked s)) = simp length-drop (omega (arith, length-checked s)) in
    let guard : Put (digits 3 111) 0 l0 l1 3 = put-digits 3 111 0 l0 l1 3 refl p1 in
    let left : Put (patterns (sets_of s) (drop 1 (checked s))) 3 l1 l2 27 =
    put_all _ 3 3 l1 l2 27 refl (ap (λ k. 3 + k) (sym (length-patterns (sets_of s) (drop 1 (checked s)) first))) (p2 ∙ ap (λ k. sets l1 3 (patterns k (drop 1 (checked s)))) which) in
    let centre : Put (digits 5 11111) 27 l2 l3 32 = put-digits 5 11111 27 l2 l3 32 refl p3 in
    let right : Put (patterns (digits 6 333333) (drop 7 (checked s))) 32 l3 l4 56 =
    put_all _ 32 32 l3 l4 56 refl (ap (λ k. 32 + k) (sym (length-patterns (digits 6 333333) (drop 7 (checked s)) second))) p4 in
    let last : Put (digits 3 111) 56 l4 l5 q5 = put-digits 3 111 56 l4 l5 q5 p5.0 p5.1 in
    put-more _ _ _ _ _ _ _ _ guard (put-more _ _ _ _ _ _ _ _ left (put-more _ _ _ _ _ _ _ _ centre (put-more _ _ _ _ _ _ _ _ right last)))
