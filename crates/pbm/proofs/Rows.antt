-- Rows written byte by byte, and a picture row by row.
use mathlib.Core.Path.{◌≡◌, refl}
use mathlib.Core.List.{List, [], ◌∷◌, ◌++◌}
use Prim.Native.Nat.{ℕ, zero, suc, ◌+◌, ◌-◌, ◌*◌, ◌≤◌, ◌<◌}
use native.Mathlib.Omega.{arith}
use lib.ListN.{length}
use borrow.Author.Tests.{le-leb}
use Rattle.writing.specs.Writing.{Wrote}
use Rattle.writing.proofs.Writes.{Rest, rest-start, rest-step, rest-done, rest-same}
use Rattle.pbm.specs.Pbm.{row_bytes, cut, byte_at, row_from, rows_from}

-- nothing is written yet
pub none_yet : {out : List ℕ} {at : ℕ} (f : ℕ → List ℕ) (n : ℕ) → at ≤ length out → Rest out at (f n) out at (f (n - 0))
none_yet f n h = let e : n - 0 ≡ n = omega arith in rw e (rest-start h)

module _ {out₀ whole out : List ℕ} {at place : ℕ} (page : List ℕ) (width : ℕ) where
  pub row_next : {o : List ℕ} {r : ℕ} (from j n : ℕ) → j < n → Rest out₀ at whole out place (row_from page width from j (n - j))
      → Wrote out place (byte_at page width from j ∷ []) r o → Rest out₀ at whole o r (row_from page width from (j + 1) (n - (j + 1)))
  unfolding row_from
  row_next from j n h k w = rest-step (rest-same k (go (n - j) (n - (j + 1)) (j + 1) (omega arith) (omega arith))) w
    where
      go : (a b c : ℕ) → a ≡ suc b → c ≡ suc j → row_from page width from j a ≡ (byte_at page width from j ∷ []) ++ row_from page width from c b
      go a b c p q = rw (p, q)

  pub row_last : (from j n : ℕ) → n ≤ j → Rest out₀ at whole out place (row_from page width from j (n - j)) → Wrote out₀ at whole place out
  unfolding row_from
  row_last from j n h k = rest-done (rest-same k (go (n - j) (omega arith)))
    where
      go : (a : ℕ) → a ≡ 0 → row_from page width from j a ≡ []
      go a e = rw e

  pub rows_next : {o : List ℕ} {r : ℕ} (y n : ℕ) → y < n → Rest out₀ at whole out place (rows_from page width y (n - y))
      → Wrote out place (row_from page width (76 * y) 0 (row_bytes width)) r o → Rest out₀ at whole o r (rows_from page width (y + 1) (n - (y + 1)))
  unfolding rows_from
  rows_next y n h k w = rest-step (rest-same k (go (n - y) (n - (y + 1)) (y + 1) (omega arith) (omega arith))) w
    where
      go : (a b c : ℕ) → a ≡ suc b → c ≡ suc y → rows_from page width y a ≡ row_from page width (76 * y) 0 (row_bytes width) ++ rows_from page width c b
      go a b c p q = rw (p, q)

  pub rows_last : (y n : ℕ) → n ≤ y → Rest out₀ at whole out place (rows_from page width y (n - y)) → Wrote out₀ at whole place out
  unfolding rows_from
  rows_last y n h k = rest-done (rest-same k (go (n - y) (omega arith)))
    where
      go : (a : ℕ) → a ≡ 0 → rows_from page width y a ≡ []
      go a e = rw e

-- ---- a byte cut

-- eight dots or more are the whole byte
pub cut-whole : (k b : ℕ) → (k ≡ 0 → ⊥) → (k ≡ 1 → ⊥) → (k ≡ 2 → ⊥) → (k ≡ 3 → ⊥) → (k ≡ 4 → ⊥) → (k ≡ 5 → ⊥) → (k ≡ 6 → ⊥) → (k ≡ 7 → ⊥)
    → b ≡ cut k b
unfolding cut
cut-whole zero b h₀ h₁ h₂ h₃ h₄ h₅ h₆ h₇ = absurd (h₀ refl)
cut-whole (suc zero) b h₀ h₁ h₂ h₃ h₄ h₅ h₆ h₇ = absurd (h₁ refl)
cut-whole (suc (suc zero)) b h₀ h₁ h₂ h₃ h₄ h₅ h₆ h₇ = absurd (h₂ refl)
cut-whole (suc (suc (suc zero))) b h₀ h₁ h₂ h₃ h₄ h₅ h₆ h₇ = absurd (h₃ refl)
cut-whole (suc (suc (suc (suc zero)))) b h₀ h₁ h₂ h₃ h₄ h₅ h₆ h₇ = absurd (h₄ refl)
cut-whole (suc (suc (suc (suc (suc zero))))) b h₀ h₁ h₂ h₃ h₄ h₅ h₆ h₇ = absurd (h₅ refl)
cut-whole (suc (suc (suc (suc (suc (suc zero)))))) b h₀ h₁ h₂ h₃ h₄ h₅ h₆ h₇ = absurd (h₆ refl)
cut-whole (suc (suc (suc (suc (suc (suc (suc zero))))))) b h₀ h₁ h₂ h₃ h₄ h₅ h₆ h₇ = absurd (h₇ refl)
cut-whole (suc (suc (suc (suc (suc (suc (suc (suc k)))))))) b h₀ h₁ h₂ h₃ h₄ h₅ h₆ h₇ =
    rw (le-leb 8 (suc (suc (suc (suc (suc (suc (suc (suc k)))))))) (omega arith))
