-- The elements of Interleaved 2 of 5 as the code writes them. Assumes nothing.
use mathlib.Core.Path.{◌≡◌, refl, sym, ap, subst, ◌∙◌}
use mathlib.Core.Bool.{Bool}
use mathlib.Core.List.{List, [], ◌∷◌, ◌++◌}
use Prim.Native.Nat.{ℕ, suc, ◌+◌, ◌-◌, ◌*◌, ◌/◌, ◌%◌, ◌≤◌, ◌<◌}
use native.Mathlib.Decide.{dec_lt}
use native.Mathlib.Omega.{arith}
use lib.Dec.{T}
use lib.ListN.{length, get_or, drop, length-append, length-drop}
use lib.Seq.{sets, length-sets, drop-cons}
use Rattle.ground.proofs.Stores.{sets-append}
use Rattle.symbols.specs.Tables.{rows25}
use Rattle.code128.specs.Widths.{digits}
use Rattle.symbols.specs.Elements.{five, woven, pairs, elements25}
use Rattle.symbols.specs.Laid.{Put, spread}
use Rattle.symbols.proofs.Lists.{put-digits, put_all, put-more}
use Rattle.code128.proofs.Tables.{same, same-eq, below, below_at, past-rows}

-- ---- two digits woven: one test over the digits and what stands past them

weaves : ℕ → ℕ → Bool
weaves u v = same (digits 10 (get_or spread u 0 * 10 + get_or spread v 0)) (woven (digits 5 (get_or rows25 u 0)) (digits 5 (get_or rows25 v 0)))

tested : T (below (λ u. below (weaves u) 11) 11)
unfolding weaves digits woven rows25 spread
tested = tt

weaves-at : (u v : ℕ) → u < 11 → v < 11 → T (weaves u v)
weaves-at u v h i = below_at (weaves u) 11 (below_at (λ u. below (weaves u) 11) 11 tested u h) v i

-- what stands past a table stands at its end
clip : (v : ℕ) → Dec (v < 10) → ℕ
clip v (yes h) = v
clip v (no h) = 10

clip-low : (v : ℕ) (d : Dec (v < 10)) → clip v d < 11
unfolding clip
clip-low v (yes h) = omega arith
clip-low v (no h) = omega arith

clip-spread : (v : ℕ) (d : Dec (v < 10)) → get_or spread v 0 ≡ get_or spread (clip v d) 0
unfolding clip spread
clip-spread v (yes h) = refl
clip-spread v (no h) = sym (past-rows spread v v (omega arith) refl)

clip-rows : (v : ℕ) (d : Dec (v < 10)) → get_or rows25 v 0 ≡ get_or rows25 (clip v d) 0
unfolding clip rows25
clip-rows v (yes h) = refl
clip-rows v (no h) = sym (past-rows rows25 v v (omega arith) refl)

pub woven-row : (a b w x v y : ℕ) → w ≡ x → x ≡ get_or spread (a - 48) 0 → v ≡ y → y ≡ get_or spread (b - 48) 0 → digits 10 (w * 10 + v) ≡ woven (five a) (five b)
unfolding weaves five
woven-row a b w x v y e f g h =
    let m = clip (a - 48) (dec_lt (a - 48) 10) in
    let n = clip (b - 48) (dec_lt (b - 48) 10) in
    let p : get_or spread (a - 48) 0 ≡ get_or spread m 0 = clip-spread (a - 48) (dec_lt (a - 48) 10) in
    let q : get_or spread (b - 48) 0 ≡ get_or spread n 0 = clip-spread (b - 48) (dec_lt (b - 48) 10) in
    let t : T (weaves m n) = weaves-at m n (clip-low (a - 48) (dec_lt (a - 48) 10)) (clip-low (b - 48) (dec_lt (b - 48) 10)) in
    ap (λ k. digits 10 (k * 10 + v)) (e ∙ f ∙ p) ∙ ap (λ k. digits 10 (get_or spread m 0 * 10 + k)) (g ∙ h ∙ q)
    ∙ same-eq (digits 10 (get_or spread m 0 * 10 + get_or spread n 0)) (woven (digits 5 (get_or rows25 m 0)) (digits 5 (get_or rows25 n 0))) t
    ∙ ap (λ k. woven (digits 5 k) (digits 5 (get_or rows25 n 0))) (sym (clip-rows (a - 48) (dec_lt (a - 48) 10)))
    ∙ ap (λ k. woven (five a) (digits 5 k)) (sym (clip-rows (b - 48) (dec_lt (b - 48) 10)))

-- ---- `pairs`, along a list

length-woven : (a b : ℕ) → length (woven (five a) (five b)) ≡ 10
unfolding five digits woven
length-woven a b = refl

pairs-more : (s : List ℕ) (i : ℕ) → i + 1 < length s → pairs (drop i s) ≡ woven (five (get_or s i 0)) (five (get_or s (i + 1) 0)) ++ pairs (drop (i + 2) s)
unfolding pairs
pairs-more s i h =
    let one : i + 1 ≡ suc i = omega arith in
    let two : i + 2 ≡ suc (suc i) = omega arith in
    let h1 : i < length s = omega arith in
    let h2 : suc i < length s = omega arith in
    rw (one, two, drop-cons s i 0 h1, drop-cons s (suc i) 0 h2)

pairs-few : (t : List ℕ) → length t ≤ 1 → pairs t ≡ []
unfolding pairs
pairs-few [] h = refl
pairs-few (a ∷ []) h = refl
pairs-few (a ∷ b ∷ t) h = absurd (omega arith)

length_pairs : (s : List ℕ) → length s % 2 ≡ 0 → length (pairs s) ≡ 5 * length s
unfolding pairs
length_pairs [] h = refl
length_pairs (a ∷ []) h = absurd (omega arith)
length_pairs (a ∷ b ∷ s) h = length-append (woven (five a) (five b)) (pairs s) ∙ omega (arith, length-woven a b, length_pairs s (omega arith))

-- ---- the loop over two digits at a time

pub record Weaving (s l₀ l : List ℕ) (i : ℕ) : Type 0 where
  pub below : i ≤ length s + 1
  pub long : length l ≡ length l₀
  pub whole : sets l (5 * i + 4) (pairs (drop i s)) ≡ sets l₀ 4 (pairs s)

pub weaving-step : (s l₀ l l' : List ℕ) (i row : ℕ) → i + 1 < length s → Weaving s l₀ l i → digits 10 row ≡ woven (five (get_or s i 0)) (five (get_or s (i + 1) 0))
    → l' ≡ sets l (5 * i + 4) (digits 10 row) → Weaving s l₀ l' (i + 2)
weaving-step s l₀ l l' i row h w e p =
    let ws = woven (five (get_or s i 0)) (five (get_or s (i + 1) 0)) in
    let next : 5 * (i + 2) + 4 ≡ 5 * i + 4 + length ws = omega (arith, length-woven (get_or s i 0) (get_or s (i + 1) 0)) in
    let q : l' ≡ sets l (5 * i + 4) ws = p ∙ ap (sets l (5 * i + 4)) e in
    record {
      below = omega arith;
      long = ap length q ∙ length-sets l (5 * i + 4) ws ∙ w.long;
      whole = ap (λ k. sets k (5 * (i + 2) + 4) (pairs (drop (i + 2) s))) q ∙ ap (λ k. sets (sets l (5 * i + 4) ws) k (pairs (drop (i + 2) s))) next
          ∙ sym (sets-append l (5 * i + 4) ws (pairs (drop (i + 2) s))) ∙ ap (sets l (5 * i + 4)) (sym (pairs-more s i h)) ∙ w.whole;
    }

-- the same for pair number k
pub weaving-pair : (s l₀ l l' : List ℕ) (k row : ℕ) → k < length s / 2 → Weaving s l₀ l (2 * k)
    → digits 10 row ≡ woven (five (get_or s (2 * k) 0)) (five (get_or s (2 * k + 1) 0)) → l' ≡ sets l (10 * k + 4) (digits 10 row) → Weaving s l₀ l' (2 * (k + 1))
weaving-pair s l₀ l l' k row h w e p =
    let at : 10 * k + 4 ≡ 5 * (2 * k) + 4 = omega arith in
    let next : 2 * k + 2 ≡ 2 * (k + 1) = omega arith in
    subst (λ (n : ℕ). Weaving s l₀ l' n) next (weaving-step s l₀ l l' (2 * k) row (omega arith) w e (p ∙ ap (λ (n : ℕ). sets l n (digits 10 row)) at))

pub weaving-done : (s l₀ l : List ℕ) (i : ℕ) → length s ≤ i + 1 → Weaving s l₀ l i → l ≡ sets l₀ 4 (pairs s)
weaving-done s l₀ l i h w = rw (pairs-few (drop i s) (omega (arith, length-drop i s))) at w.whole

-- ---- start, data, stop: what stands in the list after each
pub filled-25 : (s l0 l1 l2 l3 : List ℕ) (q1 q3 : ℕ) → length s % 2 ≡ 0 → (q1 ≡ 0 + 4) × (l1 ≡ sets l0 0 (digits 4 1111)) → l2 ≡ sets l1 4 (pairs s)
    → (q3 ≡ q1 + 5 * length s + 3) × (l3 ≡ sets l2 (q1 + 5 * length s) (digits 3 211)) → Put (elements25 s) 0 l0 l3 q3
unfolding elements25
filled-25 s l0 l1 l2 l3 q1 q3 h p1 p2 p3 =
    let start : Put (digits 4 1111) 0 l0 l1 q1 = put-digits 4 1111 0 l0 l1 q1 p1.0 p1.1 in
    let body : Put (pairs s) q1 l1 l2 (q1 + 5 * length s) =
    put_all (pairs s) q1 4 l1 l2 (q1 + 5 * length s) (omega arith) (ap (λ k. q1 + k) (sym (length_pairs s h))) p2 in
    let stop : Put (digits 3 211) (q1 + 5 * length s) l2 l3 q3 = put-digits 3 211 (q1 + 5 * length s) l2 l3 q3 p3.0 p3.1 in
    put-more _ _ _ _ _ _ _ _ start (put-more _ _ _ _ _ _ _ _ body stop)
