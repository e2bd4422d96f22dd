-- The elements of Code 39 as the code writes them. Assumes nothing.
use mathlib.Core.Path.{◌≡◌, sym, ap, ◌∙◌}
use mathlib.Core.List.{List, [], ◌∷◌, ◌++◌}
use Prim.Native.Nat.{ℕ, ◌+◌, ◌-◌, ◌*◌, ◌/◌, ◌%◌}
use native.Mathlib.Omega.{arith}
use lib.ListN.{length, get_or, length-append}
use lib.Seq.{sets}
use Rattle.symbols.specs.Tables.{rows39}
use Rattle.code128.specs.Widths.{digits, each}
use Rattle.symbols.specs.Elements.{nine, spaced, elements39}
use Rattle.symbols.specs.Laid.{Put}
use Rattle.symbols.proofs.Lists.{length_digits, length-each, put-digits, put_all, put-more}

length-spaced : (b : ℕ) → length (spaced b) ≡ 10
unfolding spaced nine
length-spaced b = length-append (digits 9 (get_or rows39 (b - 32) 0)) (1 ∷ []) ∙ omega (arith, length_digits 9 (get_or rows39 (b - 32) 0))

-- a row and a narrow gap are one number
pub spaced-row : (b w r : ℕ) → w ≡ r → r ≡ get_or rows39 (b - 32) 0 → digits 10 (w * 10 + 1) ≡ spaced b
unfolding digits spaced nine
spaced-row b w r e f =
    let row = get_or rows39 (b - 32) 0 in
    let high : (w * 10 + 1) / 10 ≡ row = omega arith in
    let low : (w * 10 + 1) % 10 ≡ 1 = omega arith in
    ap (λ k. digits 9 k ++ ((w * 10 + 1) % 10 ∷ [])) high ∙ ap (λ k. digits 9 row ++ (k ∷ [])) low

-- start, data, stop: what stands in the list after each
pub filled-39 : (s l0 l1 l2 l3 : List ℕ) (w r v u q1 q3 : ℕ) → w ≡ r → r ≡ get_or rows39 (42 - 32) 0 → (q1 ≡ 0 + 10) × (l1 ≡ sets l0 0 (digits 10 (w * 10 + 1)))
    → l2 ≡ sets l1 10 (each spaced s) → v ≡ u → u ≡ get_or rows39 (42 - 32) 0
    → (q3 ≡ q1 + 10 * length s + 9) × (l3 ≡ sets l2 (q1 + 10 * length s) (digits 9 v)) → Put (elements39 s) 0 l0 l3 q3
unfolding elements39 nine
filled-39 s l0 l1 l2 l3 w r v u q1 q3 e f p1 p2 g h p3 =
    let start : Put (spaced 42) 0 l0 l1 q1 =
    record { next = p1.0 ∙ ap (λ k. 0 + k) (sym (length-spaced 42)); written = p1.1 ∙ ap (sets l0 0) (spaced-row 42 w r e f) } in
    let body : Put (each spaced s) q1 l1 l2 (q1 + 10 * length s) =
    put_all (each spaced s) q1 10 l1 l2 (q1 + 10 * length s) (omega arith) (ap (λ k. q1 + k) (sym (length-each spaced 10 length-spaced s))) p2 in
    let stop : Put (digits 9 (get_or rows39 (42 - 32) 0)) (q1 + 10 * length s) l2 l3 q3 =
    put-digits 9 (get_or rows39 (42 - 32) 0) (q1 + 10 * length s) l2 l3 q3 p3.0 (p3.1 ∙ ap (λ k. sets l2 (q1 + 10 * length s) (digits 9 k)) (g ∙ h)) in
    put-more _ _ _ _ _ _ _ _ start (put-more _ _ _ _ _ _ _ _ body stop)
