-- The elements of Code 128 as the code writes them.
-- Assumes nothing.
use mathlib.Core.Path.{◌≡◌, ap, ◌∙◌}
use mathlib.Core.List.{List, [], ◌∷◌}
use Prim.Native.Nat.{ℕ, ◌+◌, ◌*◌, ◌≤◌, ◌<◌}
use native.Mathlib.Omega.{arith}
use lib.ListN.{length, get_or, take}
use lib.Seq.{sets}
use Rattle.code128.specs.Code128.{rows128, six, check128, elements128}
use Rattle.code128.specs.Widths.{digits, each}
use Rattle.shortest.specs.Found.{our_writing}
use Rattle.shortest.proofs.Ours.{ours-most}
use Rattle.symbols.specs.Laid.{Put}
use Rattle.symbols.proofs.Lists.{length_digits, length-each, put-digits, put-more, written-front, Filling, filling_step}

length-six : (v : ℕ) → length (six v) ≡ 6
unfolding six
length-six v = length_digits 6 (get_or rows128 v 0)

put_six : (v r at : ℕ) (l m : List ℕ) (q : ℕ) → r ≡ get_or rows128 v 0 → (q ≡ at + 6) × (m ≡ sets l at (digits 6 r)) → Put (six v) at l m q
unfolding six
put_six v r at l m q e p = put-digits 6 (get_or rows128 v 0) at l m q p.0 (p.1 ∙ ap (λ k. sets l at (digits 6 k)) e)

-- one more symbol's row
pub row_step : (vs l₀ l l' : List ℕ) (i r v : ℕ) → i < length vs → Filling six 6 0 vs l₀ l i → v ≡ get_or vs i 0 → r ≡ get_or rows128 v 0
    → l' ≡ sets l (6 * i) (digits 6 r) → Filling six 6 0 vs l₀ l' (i + 1)
unfolding six
row_step vs l₀ l l' i r v h w e f p =
    let z : 6 * i ≡ 6 * i + 0 = omega arith in
    filling_step _ 6 0 vs l₀ l l' i (digits 6 r) (length_digits 6 r) h w (ap (digits 6) (f ∙ ap (λ k. get_or rows128 k 0) e)) (p ∙ ap (λ k. sets l k (digits 6 r)) z)

-- symbols, check, stop, last bar: what stands in the list after each
pub filled-128 : (vs l0 l1 l2 l3 l4 : List ℕ) (b c d e q2 q3 q4 : ℕ)
    → l1 ≡ sets l0 0 (each six vs)
    → c ≡ check128 vs → b ≡ get_or rows128 c 0 → (q2 ≡ 6 * length vs + 6) × (l2 ≡ sets l1 (6 * length vs) (digits 6 b))
    → d ≡ get_or rows128 106 0 → (q3 ≡ q2 + 6) × (l3 ≡ sets l2 q2 (digits 6 d))
    → e ≡ 2 → (q4 ≡ q3 + 1) × (l4 ≡ sets l3 q3 (digits 1 e))
    → Put (elements128 vs) 0 l0 l4 q4
unfolding elements128 digits
filled-128 vs l0 l1 l2 l3 l4 b c d e q2 q3 q4 p1 ec eb p2 ed p3 ee p4 =
    let body : Put (each six vs) 0 l0 l1 (6 * length vs) = record { next = omega (arith, length-each six 6 length-six vs); written = p1 } in
    let check : Put (six (check128 vs)) (6 * length vs) l1 l2 q2 = put_six (check128 vs) b (6 * length vs) l1 l2 q2 (eb ∙ ap (λ v. get_or rows128 v 0) ec) p2 in
    let stop : Put (six 106) q2 l2 l3 q3 = put_six 106 d q2 l2 l3 q3 ed p3 in
    let last : Put (2 ∷ []) q3 l3 l4 q4 = record { next = p4.0; written = p4.1 ∙ ap (λ k. sets l3 q3 (digits 1 k)) ee } in
    put-more _ _ _ _ _ _ _ _ body (put-more _ _ _ _ _ _ _ _ check (put-more _ _ _ _ _ _ _ _ stop last))

-- the writing that was put into a list long enough is the first part of it
pub writing-front : (s l m : List ℕ) (n : ℕ) → n ≡ length (our_writing s) → m ≡ sets l 0 (our_writing s) → 129 ≤ length l → take n m ≡ our_writing s
writing-front s l m n e f h = written-front (our_writing s) l m n (record { next = omega arith; written = f }) (omega (arith, ours-most s))
