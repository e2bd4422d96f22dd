-- A name beside the bytes of an entry, and a run that is the whole of a name.
-- Assumes nothing.
use mathlib.Core.Path.{◌≡◌, refl, sym, ap, ◌∙◌}
use mathlib.Core.Bool.{Bool, true, false, not, cond, ◌&&◌, and-false}
use mathlib.Core.List.{List, [], ◌∷◌}
use Prim.Native.Nat.{ℕ, suc, ◌+◌, ◌≤◌, ◌<◌}
use native.Mathlib.Omega.{arith}
use lib.ListN.{length, get_or, drop}
use lib.Dec.{eqb, ltb, leb-suc-suc}
use borrow.Author.Tests.{eq-eqb, ne_eqb, lt-ltb}
use Rattle.kinds.specs.Bytes.{all_in}
use Rattle.classes.specs.declared.Class.{Class}
use Rattle.classes.specs.Bytes.{in_class, run}
use Rattle.cells.specs.Count.{all_to}
use Rattle.cells.proofs.Counts.{all-not, all_more}
use Rattle.parts.specs.Names.{capital}
use Rattle.store.specs.Entry.{name_length, name as title_of}
use Rattle.fits.specs.Names.{bears}

-- a run ends before the list does exactly where a byte is of another class
run_short : (k : Class) (l : List ℕ) → ltb (run k l) (length l) ≡ not (all_in (in_class k) l)
unfolding run
run_short k [] = refl
run_short k (b ∷ bs) = by (in_class k b) (run_short k bs)
  where
    by :
        (t : Bool) → ltb (run k bs) (length bs) ≡ not (all_in (in_class k) bs) →
        ltb (cond t (suc (run k bs)) 0) (suc (length bs)) ≡ not (t && all_in (in_class k) bs)
    by true e = leb-suc-suc (suc (run k bs)) (length bs) ∙ e
    by false e = lt-ltb 0 (suc (length bs)) (omega arith)

pub run_ends : (k : Class) (l : List ℕ) (r : ℕ) → r ≡ 0 + run k (drop 0 l) → ltb r (length l) ≡ not (all_in (in_class k) l)
run_ends k l r e =
    let z : r ≡ run k l = omega (arith, e) in
    ap (λ (n : ℕ). ltb n (length l)) z ∙ run_short k l

not-not : (b : Bool) → not (not b) ≡ b
not-not true = refl
not-not false = refl

module _ (e name : List ℕ) where
  -- byte k of the entry's name is that of the name in capitals
  abbrev same : ℕ → Bool
  same k = eqb (get_or (title_of e) k 0) (capital (get_or name k 0))

  -- by what the code found: the entry's name, its byte k, and whether that differs from the byte asked for
  pub same-told :
      (t : List ℕ) (k b : ℕ) (r x : Bool) → t ≡ title_of e → b ≡ get_or t k 0 → r ≡ not (eqb b (capital (get_or name k 0))) → r ≡ x → same k ≡ not x
  same-told t k b r x title byte told is =
      sym (not-not (same k)) ∙ ap not (sym (told ∙ ap (λ (n : ℕ). not (eqb n (capital (get_or name k 0)))) (byte ∙ ap (λ (l : List ℕ). get_or l k 0) title)) ∙ is)

  pub bears-length : (name_length e ≡ length name → ⊥) → bears e name ≡ false
  unfolding bears
  bears-length h = rw (ne_eqb _ _ h)

  pub bears-differs : (k : ℕ) → k < length name → same k ≡ false → bears e name ≡ false
  unfolding bears
  bears-differs k h d = rw (all-not same (length name) k h d) (and-false (eqb (name_length e) (length name)))

  -- a pass over the name, standing at k: all before is the same
  pub record Compared (k : ℕ) : Type 0 where
    pub few : k ≤ length name
    pub sofar : all_to same k ≡ true

  pub compared-start : Compared 0
  compared-start = record { few = omega arith; sofar = refl }

  pub compared-step : (k : ℕ) → k < length name → same k ≡ true → Compared k → Compared (k + 1)
  compared-step k h d c = record { few = omega arith; sofar = all_more same k c.sofar d }

  pub compared-done : (k : ℕ) → length name ≤ k → name_length e ≡ length name → Compared k → bears e name ≡ true
  unfolding bears
  compared-done k h n c =
      let z : length name ≡ k = omega (arith, c.few) in
      rw (eq-eqb _ _ n) (ap (all_to same) z ∙ c.sofar)
