-- Widths that follow from the rule of Code 128's table, and from how short its writing is.
-- Assumes nothing.
use mathlib.Core.Path.{◌≡◌, sym, ap, ◌∙◌}
use mathlib.Core.Bool.{true}
use mathlib.Core.List.{List, [], ◌∷◌, map}
use Prim.Native.Nat.{ℕ, ◌+◌, ◌*◌, ◌≤◌, ◌<◌}
use native.Mathlib.Nat.{mul-le-mul}
use native.Mathlib.Omega.{arith}
use lib.ListN.{length, get_or}
use Rattle.kinds.specs.declared.Kind.TheVariants.{Code128}
use Rattle.kinds.specs.Fit.{fit}
use Rattle.code128.specs.Widths.{sum}
use Rattle.code128.specs.Code128.{six, elements128}
use Rattle.code128.proofs.Rule.{rule, sum-128}
use Rattle.shortest.specs.Writing.{Writing, Shortest}
use Rattle.shortest.specs.Found.{our_writing}
use Rattle.shortest.proofs.Order.{later-length}
use Rattle.shortest.proofs.Ours.{ours-few}
use Rattle.shortest.proofs.Alike.{SameDigits, same_length}
use Rattle.shortest.proofs.Shortest.{ours-shortest, shortest-ours, ours-rows}
use Rattle.symbols.proofs.Asked.{elements-ours, elements-shortest}
use Rattle.bars.specs.Drawing.{dots_of, widths}

-- an element of symbol v is from e to 4 e dots wide
pub width-128 : (v j e f : ℕ) → v < 106 → j < 6 → (e ≤ dots_of Code128 e f (get_or (six v) j 0)) × (dots_of Code128 e f (get_or (six v) j 0) ≤ 4 * e)
unfolding dots_of
width-128 v j e f h i =
    let w = (rule v h).each j i in
    let low : 1 * e ≤ get_or (six v) j 0 * e = mul-le-mul {n₂ = get_or (six v) j 0} {m₂ = e} w.0 (omega arith) in
    (omega arith, mul-le-mul {n₂ = 4} {m₂ = e} w.1 (omega arith))

-- ---- how wide Code 128 is

sum-scaled : (e f : ℕ) (ws : List ℕ) → sum (map (dots_of Code128 e f) ws) ≡ sum ws * e
unfolding sum dots_of
sum-scaled e f [] = omega arith
sum-scaled e f (w ∷ ws) = ap (λ k. w * e + k) (sum-scaled e f ws) ∙ omega arith

-- written with n symbols, e times 11 n + 24 dots
pub total-128 : (e f : ℕ) (s : List ℕ) → fit Code128 s ≡ true → sum (widths Code128 e f s) ≡ (11 * length (our_writing s) + 24) * e
unfolding widths
total-128 e f s h = rw (elements-ours s h) (sum-scaled e f (elements128 (our_writing s)) ∙ ap (λ k. k * e) (sum-128 (our_writing s) (ours-rows s h)))

-- whatever is shortest, its elements are drawn, and it is as wide as that
pub widths-shortest : (e f : ℕ) (s v : List ℕ) → fit Code128 s ≡ true → Shortest s v → widths Code128 e f s ≡ map (λ w. w * e) (elements128 v)
unfolding widths dots_of
widths-shortest e f s v h p = ap (map (λ w. w * e)) (elements-shortest s v h p)

pub total-shortest : (e f : ℕ) (s v : List ℕ) → fit Code128 s ≡ true → Shortest s v → sum (widths Code128 e f s) ≡ (11 * length v + 24) * e
total-shortest e f s v h p = total-128 e f s h ∙ ap (λ w. (11 * length w + 24) * e) (sym (shortest-ours s v h p))

-- "no other writing of the same data with these two sets has fewer symbols", and so none is narrower
pub no-narrower : (e f : ℕ) (s u : List ℕ) → fit Code128 s ≡ true → Writing s u → sum (widths Code128 e f s) ≤ (11 * length u + 24) * e
no-narrower e f s u h w =
    let l : length (our_writing s) ≤ length u = later-length ((ours-shortest s h).first u w) in
    rw (total-128 e f s h) (mul-le-mul {n₂ = 11 * length u + 24} {m₂ = e} (omega arith) (omega arith))

-- never wider than set B alone, which has a symbol for each byte and the start
pub never-wider : (e f : ℕ) (s : List ℕ) → fit Code128 s ≡ true → sum (widths Code128 e f s) ≤ (11 * length s + 35) * e
never-wider e f s h =
    rw (total-128 e f s h) (mul-le-mul {n₂ = 11 * length s + 35} {m₂ = e} (omega (arith, ours-few s h)) (omega arith))

-- as wide as for other data with digits in the same places
pub same_width : (e f : ℕ) (s t : List ℕ) → fit Code128 s ≡ true → fit Code128 t ≡ true → SameDigits s t → sum (widths Code128 e f s) ≡ sum (widths Code128 e f t)
same_width e f s t h k d = total-128 e f s h ∙ ap (λ n. (11 * n + 24) * e) (same_length s t h k d) ∙ sym (total-128 e f t k)
