-- The list written line by line, and how long it can be.
-- Assumes nothing.
use mathlib.Core.Path.{◌≡◌, refl, sym, ◌∙◌}
use mathlib.Core.List.{List, [], ◌∷◌, ◌++◌}
use mathlib.Core.Bool.{Bool, true, false, cond}
use Prim.Native.Nat.{ℕ, zero, suc, ◌+◌, ◌*◌, ◌/◌, ◌%◌, ◌≤◌, ◌<◌, min}
use native.Mathlib.Omega.{arith}
use native.Mathlib.Decide.{dec_lt}
use native.Mathlib.Numerals.{add-one}
use lib.ListN.{length, get_or, length-append}
use lib.Dec.{eqb}
use borrow.Author.Tests.{eq-eqb, ne_eqb, le-ltb}
use Rattle.kinds.specs.Text.{bytes}
use Rattle.writing.specs.Writing.{Wrote, digits, decimal}
use Rattle.writing.proofs.Writes.{wrote_then, digits_last, digits-two}
use Rattle.verdict_list.specs.Lines.{word, verdict_line, line_at, lines_to}

-- ---- words

module _ (v : ℕ) where
  pub word_kept : v ≡ 1 → bytes "kept" ≡ word v
  unfolding word
  word_kept e = rw (eq-eqb v 1 e)

  module _ (n₁ : v ≡ 1 → ⊥) where
    pub word-name : v ≡ 2 → bytes "name" ≡ word v
    unfolding word
    word-name e = rw (ne_eqb v 1 n₁, eq-eqb v 2 e)

    module _ (n₂ : v ≡ 2 → ⊥) where
      pub word-chain : v ≡ 3 → bytes "chain" ≡ word v
      unfolding word
      word-chain e = rw (ne_eqb v 1 n₁, ne_eqb v 2 n₂, eq-eqb v 3 e)

      module _ (n₃ : v ≡ 3 → ⊥) where
        pub word_size : v ≡ 4 → bytes "size" ≡ word v
        unfolding word
        word_size e = rw (ne_eqb v 1 n₁, ne_eqb v 2 n₂, ne_eqb v 3 n₃, eq-eqb v 4 e)

        module _ (n₄ : v ≡ 4 → ⊥) where
          pub word-shared : v ≡ 5 → bytes "shared" ≡ word v
          unfolding word
          word-shared e = rw (ne_eqb v 1 n₁, ne_eqb v 2 n₂, ne_eqb v 3 n₃, ne_eqb v 4 n₄, eq-eqb v 5 e)

          pub word-content : (v ≡ 5 → ⊥) → bytes "content" ≡ word v
          unfolding word
          word-content n₅ = rw (ne_eqb v 1 n₁, ne_eqb v 2 n₂, ne_eqb v 3 n₃, ne_eqb v 4 n₄, ne_eqb v 5 n₅)

-- ---- lines

module _ (vs : List ℕ) (i v : ℕ) (ev : v ≡ get_or vs i 0) where
  pub line-none : v ≡ 0 → line_at vs i ≡ []
  unfolding line_at
  line-none z = rw (eq-eqb (get_or vs i 0) 0 (sym ev ∙ z))

  pub line-some : (v ≡ 0 → ⊥) → verdict_line i v ≡ line_at vs i
  unfolding line_at
  line-some n = rw (ne_eqb (get_or vs i 0) 0 (λ z. n (ev ∙ z)), ← ev)

pub nothing-wrote : (out xs : List ℕ) (at r : ℕ) → xs ≡ [] → r ≡ min at (length out) → Wrote out at xs r out
nothing-wrote out xs at r e h = rw e (record { place = omega arith; stored = refl })

pub lines_more : (vs out₀ out out' : List ℕ) (at r i : ℕ) → Wrote out₀ 0 (lines_to vs i) at out → Wrote out at (line_at vs i) r out' → Wrote out₀ 0 (lines_to vs (i + 1)) r out'
unfolding lines_to
lines_more vs out₀ out out' at r i w u = rw (add-one i) (wrote_then w u)

-- ---- how long: three digits, a space, seven letters, LF

number_short : (n : ℕ) → n < 1000 → length (decimal n) ≤ 3
unfolding digits
number_short n h = elim (dec_lt n 100) [
  | yes y ↦ elim (dec_lt n 10) [
    | yes z ↦ rw (digits_last 19 n [] z) (omega arith)
    | no z ↦ rw (digits-two 19 n (let g : 0 < 19 = omega arith in g) (let g : 10 ≤ n = omega arith in g) y) (omega arith)
  ]
  | no y ↦
      let a : 10 ≤ n = omega arith in
      let b : 10 ≤ n / 10 = omega arith in
      rw (le-ltb n 10 a, le-ltb (n / 10) 10 b) (rw (digits_last 17 (n / 10 / 10) ((48 + n / 10 % 10) ∷ (48 + n % 10) ∷ []) (let g : n / 10 / 10 < 10 = omega arith in g)) (omega arith))
]

word-short : (v : ℕ) → length (word v) ≤ 7
unfolding word
word-short v = go (eqb v 1) (eqb v 2) (eqb v 3) (eqb v 4) (eqb v 5)
  where
    go : (a b c d e : Bool) → length (cond a (bytes "kept") (cond b (bytes "name") (cond c (bytes "chain") (cond d (bytes "size") (cond e (bytes "shared") (bytes "content")))))) ≤ 7
    go true b c d e = omega arith
    go false true c d e = omega arith
    go false false true d e = omega arith
    go false false false true e = omega arith
    go false false false false true = omega arith
    go false false false false false = omega arith

line-short : (vs : List ℕ) (i : ℕ) → i < 512 → length (line_at vs i) ≤ 12
unfolding line_at verdict_line
line-short vs i h = go (eqb (get_or vs i 0) 0) (get_or vs i 0)
  where
    go : (t : Bool) (v : ℕ) → length (cond t [] (decimal i ++ (32 ∷ (word v ++ (10 ∷ []))))) ≤ 12
    go true v = omega arith
    go false v = omega (arith, length-append (decimal i) (32 ∷ (word v ++ (10 ∷ []))), length-append (word v) (10 ∷ []), number_short i (omega arith), word-short v)

pub lines-short : (vs : List ℕ) (n : ℕ) → n ≤ 512 → length (lines_to vs n) ≤ 12 * n
unfolding lines_to
lines-short vs zero h = omega arith
lines-short vs (suc n) h = omega (arith, length-append (lines_to vs n) (line_at vs n), lines-short vs n (omega arith), line-short vs n (omega arith))
