-- The lines of a form, one after another: a fold over all lines of some bytes is a step with the first, and the fold over what stands behind it.
-- Assumes nothing.
use Rattle.std.proofs.Common.{None}
use mathlib.Core.Path.{◌≡◌, refl, sym, ap, ◌∙◌}
use mathlib.Core.Bool.{Bool, true, false, cond, and-false}
use mathlib.Core.List.{List, [], ◌∷◌}
use mathlib.Core.Logic.{◌⊎◌, ⊎_elim}
use Prim.Native.Nat.{ℕ, suc, ◌≤◌, ◌<◌}
use native.Mathlib.Omega.{arith}
use native.Mathlib.Decide.{dec_le}
use lib.ListN.{length, drop, length-drop}
use lib.Dec.{ltb}
use borrow.Author.Tests.{eq-eqb, ne_eqb, lt-ltb, le-ltb, le-leb, lt-leb}
use Rattle.cells.proofs.Counts.{drop-none}
use Rattle.content_lines.specs.Lines.{lines, onto, lines_of, line_of}
use Rattle.ground.proofs.Tests.{same?}
use Rattle.kept_line.specs.Held.{item_in}
use Rattle.kept_line.proofs.Standing.{item-empty, item-long}
use Rattle.form_lines.specs.Walk.{line_in, behind}

-- ---- lines

pub lines_next : (a : List ℕ) → length (line_of a) < length a → lines_of a ≡ lines (line_of a ∷ (lines_of (behind a)).whole) (lines_of (behind a)).rest
unfolding lines_of line_of behind
lines_next [] h = absurd (omega arith)
lines_next (b ∷ bs) h = ⊎_elim
    (λ (e : b ≡ 10). rw (eq-eqb b 10 e))
    (λ (n : b ≡ 10 → ⊥).
    let k : suc (length (line_of bs)) < suc (length bs) = rw (ne_eqb b 10 n) at h in
    rw (ne_eqb b 10 n) (ap (onto (b ∷ [])) (lines_next bs (omega arith))))
    (same? b 10)

pub lines-last : (a : List ℕ) → length a ≤ length (line_of a) → lines_of a ≡ lines [] a
unfolding lines_of line_of
lines-last [] h = refl
lines-last (b ∷ bs) h = ⊎_elim
    (λ (e : b ≡ 10). absurd (let k : suc (length bs) ≤ 0 = rw (eq-eqb b 10 e) at h in omega arith))
    (λ (n : b ≡ 10 → ⊥).
    let k : suc (length bs) ≤ suc (length (line_of bs)) = rw (ne_eqb b 10 n) at h in
    rw (ne_eqb b 10 n) (ap (onto (b ∷ [])) (lines-last bs (omega arith))))
    (same? b 10)

pub behind-none : (a : List ℕ) → length a ≤ length (line_of a) → behind a ≡ []
unfolding behind
behind-none a h = drop-none a (suc (length (line_of a))) (omega arith)

pub behind-less : (a : List ℕ) → 0 < length a → length (behind a) < length a
unfolding behind
behind-less a h = omega (arith, length-drop (suc (length (line_of a))) a)

-- one byte on in a line that has one
pub behind-tail : (a : List ℕ) → 0 < length (line_of a) → behind (drop 1 a) ≡ behind a
unfolding behind line_of
behind-tail [] h = absurd (omega arith)
behind-tail (b ∷ bs) h = ⊎_elim
    (λ (e : b ≡ 10). absurd (let k : 0 < 0 = rw (eq-eqb b 10 e) at h in omega arith))
    (λ (n : b ≡ 10 → ⊥). rw (ne_eqb b 10 n))
    (same? b 10)

module _ (a : List ℕ) where
  pub line-good : length (line_of a) < length a → length (line_of a) ≤ 255 → line_in a ≡ line_of a
  unfolding line_in
  line-good h k = rw (lt-ltb (length (line_of a)) (length a) h, le-leb (length (line_of a)) 255 k)

  pub line-long : 255 < length (line_of a) → line_in a ≡ []
  unfolding line_in
  line-long h = rw (lt-leb (length (line_of a)) 255 h, and-false (ltb (length (line_of a)) (length a)))

  pub line-cut : length a ≤ length (line_of a) → line_in a ≡ []
  unfolding line_in
  line-cut h = rw (le-ltb (length (line_of a)) (length a) h)

-- ---- a step of a fold

module _ {S R : Type 0} (f : S → List (List ℕ) → R) (step : S → List ℕ → S)
    (more : (s : S) (l : List ℕ) (ls : List (List ℕ)) → f s (l ∷ ls) ≡ f (step s l) ls)
    (idle : (s : S) (l : List ℕ) → item_in l ≡ None → step s l ≡ s) (s : S) (a : List ℕ) where
  pub fold_step : f (step s (line_in a)) (lines_of (behind a)).whole ≡ f s (lines_of a).whole
  unfolding lines_of
  fold_step = go (dec_le (length a) (length (line_of a))) (dec_le (length (line_of a)) 255)
    where
      go : Dec (length a ≤ length (line_of a)) → Dec (length (line_of a) ≤ 255) → f (step s (line_in a)) (lines_of (behind a)).whole ≡ f s (lines_of a).whole
      go (yes c) k = rw (lines-last a c, line-cut a c, behind-none a c, idle s [] item-empty)
      go (no c) (yes k) = rw (line-good a (omega arith) k, lines_next a (omega arith)) (sym (more s (line_of a) (lines_of (behind a)).whole))
      go (no c) (no k) =
          rw (line-long a (omega arith), lines_next a (omega arith), idle s [] item-empty)
          (sym (more s (line_of a) (lines_of (behind a)).whole ∙ ap (λ (t : S). f t (lines_of (behind a)).whole) (idle s (line_of a) (item-long (line_of a) (omega arith)))))
