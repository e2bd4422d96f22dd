-- Bar types in a line to which more is added.
use Rattle.std.specs.Prelude.{Err}
use mathlib.Core.Path.{◌≡◌, ◌∙◌, refl}
use mathlib.Core.List.{List, [], ◌∷◌, ◌++◌}
use Prim.Native.Nat.{ℕ, ◌+◌, ◌<◌}
use Prim.Native.Char.{code}
use native.Mathlib.Omega.{arith}
use native.Mathlib.Decide.{ℕ_discrete, dec_lt}
use lib.ListN.{length, get_or}
use lib.Seq.{get_or-append_seam, get_or-append-add}
use borrow.Author.Tests.{eq-eqb, ne_eqb}
use Rattle.classes.proofs.Laws.{past}
use Rattle.fields.specs.Field.{word_to, type_at}
use Rattle.pointing.proofs.Runs.{longer, byte-kept, byte-other}
use Rattle.pointing.proofs.Pieces.{Rest, Full}
use Rattle.pointing.proofs.Words.{word-behind, Seen, word, none, absent, cut, seen-full}

-- ---- what a bar type comes to, by its bytes

-- the words of one byte
data One : ℕ → ℕ → Type 0 where
  one : One (code "1") 1
  two : One (code "2") 2
  three : One (code "3") 3

module _ (t : List ℕ) (at : ℕ) where
  type-one : (b v : ℕ) → One b v → get_or t at 0 ≡ b → type_at t at ≡ word_to t at v (at + 1)
  unfolding type_at
  type-one b v one h = rw h
  type-one b v two h = rw h
  type-one b v three h = rw h

  type-none : (get_or t at 0 ≡ code "1" → ⊥) → (get_or t at 0 ≡ code "2" → ⊥) → (get_or t at 0 ≡ code "3" → ⊥) → (get_or t at 0 ≡ code "E" → ⊥)
      → type_at t at ≡ Err at
  unfolding type_at
  type-none a b c d =
      rw (ne_eqb (get_or t at 0) (code "1") a, ne_eqb (get_or t at 0) (code "2") b, ne_eqb (get_or t at 0) (code "3") c, ne_eqb (get_or t at 0) (code "E") d)

  -- `E30`, and how it may fail
  module _ (h : get_or t at 0 ≡ code "E") where
    ean-cut : length t ≡ at + 1 → type_at t at ≡ Err (length t)
    unfolding type_at
    ean-cut l = rw (h, past t (at + 1) (omega arith), eq-eqb (length t) (at + 1) l)

    ean-wrong : at + 1 < length t → (get_or t (at + 1) 0 ≡ code "3" → ⊥) → type_at t at ≡ Err at
    unfolding type_at
    ean-wrong l b = rw (h, ne_eqb (get_or t (at + 1) 0) (code "3") b, ne_eqb (length t) (at + 1) (λ q. omega arith))

    module _ (k : get_or t (at + 1) 0 ≡ code "3") where
      ean-short : length t ≡ at + 2 → type_at t at ≡ Err (length t)
      unfolding type_at
      ean-short l = rw (h, k, past t (at + 2) (omega arith), ne_eqb (length t) (at + 1) (λ q. omega arith), eq-eqb (length t) (at + 2) l)

      ean-other : at + 2 < length t → (get_or t (at + 2) 0 ≡ code "0" → ⊥) → type_at t at ≡ Err at
      unfolding type_at
      ean-other l b =
          rw (h, k, ne_eqb (get_or t (at + 2) 0) (code "0") b, ne_eqb (length t) (at + 1) (λ q. omega arith), ne_eqb (length t) (at + 2) (λ q. omega arith))

      ean : get_or t (at + 2) 0 ≡ code "0" → type_at t at ≡ word_to t at 30 (at + 3)
      unfolding type_at
      ean l = rw (h, k, l)

-- the first byte is an `E`
module _ (s : List ℕ) (at : ℕ) (l : at < length s) (h : get_or s at 0 ≡ code "E") where
  -- `30` is missing
  ean-two : length s ≡ at + 1 → Rest type_at s at
  ean-two e =
      record {
        tail = code "3" ∷ (code "0" ∷ []);
        value = 30;
        whole = λ m x.
            let t : List ℕ = s ++ (code "3" ∷ (code "0" ∷ m)) in
            let a : get_or t (at + 1) 0 ≡ code "3" = rw (← e) (get_or-append_seam s (code "3") (code "0" ∷ m) 0) in
            let b : get_or t (at + 2) 0 ≡ code "0" = (let q : at + 2 ≡ length s + 1 = omega arith in rw q (get_or-append-add s (code "3" ∷ (code "0" ∷ m)) 1 0)) in
            let d : at + 3 ≡ length s + 2 = omega arith in
            ean t at (byte-kept s (code "3" ∷ (code "0" ∷ m)) at l (code "E") h) a b
            ∙ rw d (word-behind (code "3" ∷ (code "0" ∷ [])) s m at 30 (length s + 2) refl x);
      }

  -- `0` is missing
  ean-one : get_or s (at + 1) 0 ≡ code "3" → length s ≡ at + 2 → Rest type_at s at
  ean-one k e =
      record {
        tail = code "0" ∷ [];
        value = 30;
        whole = λ m x.
            let t : List ℕ = s ++ (code "0" ∷ m) in
            let b : get_or t (at + 2) 0 ≡ code "0" = rw (← e) (get_or-append_seam s (code "0") m 0) in
            let d : at + 3 ≡ length s + 1 = omega arith in
            ean t at (byte-kept s (code "0" ∷ m) at l (code "E") h) (byte-kept s (code "0" ∷ m) (at + 1) (omega arith) (code "3") k) b
            ∙ rw d (word-behind (code "0" ∷ []) s m at 30 (length s + 1) refl x);
      }

  ean-seen : Seen type_at s at
  ean-seen = go (dec_lt (at + 1) (length s)) (ℕ_discrete (get_or s (at + 1) 0) (code "3")) (dec_lt (at + 2) (length s)) (ℕ_discrete (get_or s (at + 2) 0) (code "0"))
    where
      first : (m : List ℕ) → get_or (s ++ m) at 0 ≡ code "E"
      first m = byte-kept s m at l (code "E") h

      go : Dec (at + 1 < length s) → Dec (get_or s (at + 1) 0 ≡ code "3") → Dec (at + 2 < length s) → Dec (get_or s (at + 2) 0 ≡ code "0") → Seen type_at s at
      go (no a) b c d = let e : length s ≡ at + 1 = omega arith in cut l (ean-cut s at h e) (ean-two e)
      go (yes a) (no b) c d = none l (λ m. ean-wrong (s ++ m) at (first m) (longer s m (at + 1) a) (byte-other s m (at + 1) a (code "3") b))
      go (yes a) (yes b) (no c) d = let e : length s ≡ at + 2 = omega arith in cut l (ean-short s at h b e) (ean-one b e)
      go (yes a) (yes b) (yes c) (no d) =
          none l (λ m. ean-other (s ++ m) at (first m) (byte-kept s m (at + 1) a (code "3") b) (longer s m (at + 2) c) (byte-other s m (at + 2) c (code "0") d))
      go (yes a) (yes b) (yes c) (yes d) =
          word 30 (at + 3) (omega arith) (omega arith) (λ m. ean (s ++ m) at (first m) (byte-kept s m (at + 1) a (code "3") b) (byte-kept s m (at + 2) c (code "0") d))

type-seen : (s : List ℕ) (at : ℕ) → Seen type_at s at
type-seen s at =
    go (dec_lt at (length s)) (ℕ_discrete (get_or s at 0) (code "1")) (ℕ_discrete (get_or s at 0) (code "2")) (ℕ_discrete (get_or s at 0) (code "3")) (ℕ_discrete (get_or s at 0) (code "E"))
  where
    short : at < length s → (b v : ℕ) → One b v → get_or s at 0 ≡ b → Seen type_at s at
    short l b v o e = word v (at + 1) (omega arith) (omega arith) (λ m. type-one (s ++ m) at b v o (byte-kept s m at l b e))

    go : Dec (at < length s) → Dec (get_or s at 0 ≡ code "1") → Dec (get_or s at 0 ≡ code "2") → Dec (get_or s at 0 ≡ code "3") → Dec (get_or s at 0 ≡ code "E") → Seen type_at s at
    go (no l) a b c d = let z = past s at (omega arith) in absent (omega arith) (type-none s at (λ q. omega arith) (λ q. omega arith) (λ q. omega arith) (λ q. omega arith))
    go (yes l) (yes a) b c d = short l (code "1") 1 one a
    go (yes l) (no a) (yes b) c d = short l (code "2") 2 two b
    go (yes l) (no a) (no b) (yes c) d = short l (code "3") 3 three c
    go (yes l) (no a) (no b) (no c) (yes d) = ean-seen s at l d
    go (yes l) (no a) (no b) (no c) (no d) =
        none l (λ m. type-none (s ++ m) at (byte-other s m at l (code "1") a) (byte-other s m at l (code "2") b) (byte-other s m at l (code "3") c) (byte-other s m at l (code "E") d))

-- a bar type is a field that a comma ends
pub type-full : Full type_at
type-full = seen-full type_at type-seen (code "1") 1 (λ s m. type-one (s ++ (code "1" ∷ m)) (length s) (code "1") 1 one (get_or-append_seam s (code "1") m 0))
