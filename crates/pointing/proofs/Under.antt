-- What stands under bars, in a line to which more is added. `B,C` or `B,R` may still become a place or data, so up to three bytes behind the `B` count.
use Rattle.std.specs.Prelude.{Ok, Err}
use mathlib.Core.Path.{◌≡◌, ◌∙◌, refl}
use mathlib.Core.Bool.{Bool, true, false, ◌&&◌, and-false}
use mathlib.Core.List.{List, ◌∷◌, ◌++◌}
use Prim.Native.Nat.{ℕ, ◌+◌, ◌≤◌, ◌<◌}
use Prim.Native.Char.{code}
use native.Mathlib.Omega.{arith}
use native.Mathlib.Decide.{ℕ_discrete, dec_lt}
use lib.Dec.{eqb}
use lib.ListN.{length, get_or, get_or-append}
use lib.Seq.{get_or-append_seam}
use borrow.Author.Tests.{eq-eqb, ne_eqb}
use Rattle.classes.proofs.Laws.{past}
use Rattle.fields.specs.Field.{is_place, word_to, under_at}
use Rattle.pointing.proofs.Runs.{longer, byte-kept, byte-other}

and-out : (a b c : Bool) → (a && b) ≡ false → (a && (b && c)) ≡ false
and-out true true c h = absurd (let z : ◌≡◌ {A = ℕ} 0 1 = cc in omega arith)
and-out true false c h = refl
and-out false b c h = refl

-- ---- what a word comes to, by its bytes
module _ (t : List ℕ) (at : ℕ) where
  -- an `N` starts the word `N`
  pub under-nothing : get_or t at 0 ≡ code "N" → under_at t at ≡ word_to t at (code "N") (at + 1)
  unfolding under_at
  under-nothing h = rw h

  under_none : (get_or t at 0 ≡ code "N" → ⊥) → (get_or t at 0 ≡ code "B" → ⊥) → under_at t at ≡ Err at
  unfolding under_at
  under_none a b = rw (ne_eqb (get_or t at 0) (code "N") a, ne_eqb (get_or t at 0) (code "B") b)

  module _ (h : get_or t at 0 ≡ code "B") where
    under-line : (eqb (get_or t (at + 1) 0) (code ",") && is_place (get_or t (at + 2) 0)) ≡ false → under_at t at ≡ word_to t at (code "B") (at + 1)
    unfolding under_at
    under-line k =
        rw (h, and-out (eqb (get_or t (at + 1) 0) (code ",")) (is_place (get_or t (at + 2) 0)) (eqb (get_or t (at + 3) 0) (code ",")) k, and-out (eqb (get_or t (at + 1) 0) (code ",")) (is_place (get_or t (at + 2) 0)) (eqb (length t) (at + 3)) k)

    module _ (k : get_or t (at + 1) 0 ≡ code ",") (r : is_place (get_or t (at + 2) 0) ≡ true) where
      under-placed : get_or t (at + 3) 0 ≡ code "," → under_at t at ≡ Ok (get_or t (at + 2) 0, at + 3)
      unfolding under_at
      under-placed c = rw (h, k, r, c)

      under-cut : length t ≡ at + 3 → under_at t at ≡ Err (length t)
      unfolding under_at
      under-cut l = rw (h, k, r, past t (at + 3) (omega arith), eq-eqb (length t) (at + 3) l)

      under-loose : at + 3 < length t → (get_or t (at + 3) 0 ≡ code "," → ⊥) → under_at t at ≡ word_to t at (code "B") (at + 1)
      unfolding under_at
      under-loose l c = rw (h, k, r, ne_eqb (get_or t (at + 3) 0) (code ",") c, ne_eqb (length t) (at + 3) (λ q. omega arith))

-- ---- what stands at a place

-- a word of one letter, a place, and no word: each whatever follows the line; nothing; a place without its comma; and a `B`, or a `B` and a comma, that ends
-- the line
pub data Below (s : List ℕ) (at : ℕ) : Type 0 where
  letter : (v : ℕ) → at < length s → ((m : List ℕ) → under_at (s ++ m) at ≡ word_to (s ++ m) at v (at + 1)) → Below s at
  place : (v : ℕ) → at + 3 < length s → ((m : List ℕ) → under_at (s ++ m) at ≡ Ok (v, at + 3)) → Below s at
  none : at < length s → ((m : List ℕ) → under_at (s ++ m) at ≡ Err at) → Below s at
  absent : length s ≤ at → under_at s at ≡ Err at → Below s at
  cut : (v : ℕ) → length s ≡ at + 3 → under_at s at ≡ Err (length s) → ((m : List ℕ) → under_at (s ++ (code "," ∷ m)) at ≡ Ok (v, at + 3)) → Below s at
  begun : at < length s → length s ≤ at + 2 → (length s ≡ at + 2 → get_or s (at + 1) 0 ≡ code ",")
      → ((m : List ℕ) → is_place (get_or (s ++ m) (at + 2) 0) ≡ false → under_at (s ++ m) at ≡ word_to (s ++ m) at (code "B") (at + 1))
      → Below s at

module _ (s : List ℕ) (at : ℕ) (l : at < length s) (h : get_or s at 0 ≡ code "B") where
  line-below : Below s at
  line-below =
      go (dec_lt (at + 1) (length s)) (ℕ_discrete (get_or s (at + 1) 0) (code ",")) (dec_lt (at + 2) (length s)) (is_place (get_or s (at + 2) 0)) refl (dec_lt (at + 3) (length s))
      (ℕ_discrete (get_or s (at + 3) 0) (code ","))
    where
      first : (m : List ℕ) → get_or (s ++ m) at 0 ≡ code "B"
      first m = byte-kept s m at l (code "B") h

      unplaced : (m : List ℕ) → is_place (get_or (s ++ m) (at + 2) 0) ≡ false → under_at (s ++ m) at ≡ word_to (s ++ m) at (code "B") (at + 1)
      unplaced m e = under-line (s ++ m) at (first m) (rw e (and-false (eqb (get_or (s ++ m) (at + 1) 0) (code ","))))

      go : Dec (at + 1 < length s) → Dec (get_or s (at + 1) 0 ≡ code ",") → Dec (at + 2 < length s) → (r : Bool) → is_place (get_or s (at + 2) 0) ≡ r → Dec (at + 3 < length s)
          → Dec (get_or s (at + 3) 0 ≡ code ",")
          → Below s at
      go (no a) b c r e d g = begun l (omega arith) (λ q. absurd (omega arith)) unplaced
      go (yes a) (no b) c r e d g =
          letter (code "B") l (λ m. under-line (s ++ m) at (first m) (rw (ne_eqb (get_or (s ++ m) (at + 1) 0) (code ",") (byte-other s m (at + 1) a (code ",") b)) refl))
      go (yes a) (yes b) (no c) r e d g = begun l (omega arith) (λ q. b) unplaced
      go (yes a) (yes b) (yes c) false e d g = letter (code "B") l (λ m. unplaced m (rw (get_or-append s m 0 (at + 2) c) e))
      go (yes a) (yes b) (yes c) true e (no d) g =
          let n : length s ≡ at + 3 = omega arith in
          cut (get_or s (at + 2) 0) n (under-cut s at h b e n)
          (λ m.
          let z = get_or-append s (code "," ∷ m) 0 (at + 2) c in
          under-placed (s ++ (code "," ∷ m)) at (first (code "," ∷ m)) (byte-kept s (code "," ∷ m) (at + 1) a (code ",") b) (rw z e)
          (rw (← n) (get_or-append_seam s (code ",") m 0))
          ∙ rw z)
      go (yes a) (yes b) (yes c) true e (yes d) (yes g) =
          place (get_or s (at + 2) 0) d
          (λ m.
          let z = get_or-append s m 0 (at + 2) c in
          under-placed (s ++ m) at (first m) (byte-kept s m (at + 1) a (code ",") b) (rw z e) (byte-kept s m (at + 3) d (code ",") g) ∙ rw z)
      go (yes a) (yes b) (yes c) true e (yes d) (no g) =
          letter (code "B") l
          (λ m.
          let z = get_or-append s m 0 (at + 2) c in
          under-loose (s ++ m) at (first m) (byte-kept s m (at + 1) a (code ",") b) (rw z e) (longer s m (at + 3) d) (byte-other s m (at + 3) d (code ",") g))

-- every place is one of these
pub below : (s : List ℕ) (at : ℕ) → Below s at
below s at = go (dec_lt at (length s)) (ℕ_discrete (get_or s at 0) (code "N")) (ℕ_discrete (get_or s at 0) (code "B"))
  where
    go : Dec (at < length s) → Dec (get_or s at 0 ≡ code "N") → Dec (get_or s at 0 ≡ code "B") → Below s at
    go (no l) a b = let z = past s at (omega arith) in absent (omega arith) (under_none s at (λ q. omega arith) (λ q. omega arith))
    go (yes l) (yes a) b = letter (code "N") l (λ m. under-nothing (s ++ m) at (byte-kept s m at l (code "N") a))
    go (yes l) (no a) (yes b) = line-below s at l b
    go (yes l) (no a) (no b) = none l (λ m. under_none (s ++ m) at (byte-other s m at l (code "N") a) (byte-other s m at l (code "B") b))
