-- What the entries of a kind call for, added up one after another.
-- Assumes nothing.
use mathlib.Core.Path.{◌≡◌, refl, sym, ap, ◌∙◌}
use mathlib.Core.Bool.{Bool, true, false, cond}
use mathlib.Core.List.{List}
use Prim.Native.Nat.{ℕ, ◌+◌, ◌≤◌, ◌<◌}
use native.Mathlib.Omega.{arith}
use native.Mathlib.Numerals.{add-one}
use Rattle.ground.specs.Numbers.{capped}
use Rattle.cells.specs.Count.{sum_to}
use Rattle.store.specs.Entry.{entries, entry, kind, many, of_kind}
use Rattle.free_number.specs.Number.{called_at, called_by}

-- ---- one entry

module _ (picture : Bool) (e : List ℕ) (k : ℕ) (r : Bool) (ek : k ≡ kind e) (er : r ≡ of_kind picture k) where
  by_kind : (b : Bool) → r ≡ b → cond b (many e) 0 ≡ called_at picture e
  by_kind b z = ap (λ (t : Bool). cond t (many e) 0) (sym z ∙ er ∙ ap (of_kind picture) ek)

  pub called-some : (n : ℕ) → r ≡ true → n ≡ many e → n ≡ called_at picture e
  called-some n z q = q ∙ by_kind true z

  pub called-none : r ≡ false → 0 ≡ called_at picture e
  called-none z = by_kind false z

-- ---- the entries before i

pub record Calling (picture : Bool) (directory : List ℕ) (n i : ℕ) : Type 0 where
  pub few : i ≤ entries directory
  pub so_far : n ≡ capped (sum_to (λ j. called_at picture (entry directory j)) i)

module _ (picture : Bool) (directory : List ℕ) where
  pub calling-start : Calling picture directory 0 0
  calling-start = record { few = omega arith; so_far = refl }

  pub calling-step : (n m x i : ℕ) → i < entries directory → Calling picture directory n i → x ≡ called_at picture (entry directory i) → m ≡ capped (n + x) → Calling picture directory m (i + 1)
  calling-step n m x i h c ex em = record { few = omega arith; so_far = rw (add-one i) (omega (arith, c.so_far, ex, em)) }

  pub calling-done : (n i : ℕ) → entries directory ≤ i → Calling picture directory n i → n ≡ capped (called_by picture directory)
  calling-done n i h c =
      let e : i ≡ entries directory = omega (arith, c.few) in
      c.so_far ∙ ap (λ (t : ℕ). capped (sum_to (λ j. called_at picture (entry directory j)) t)) e
