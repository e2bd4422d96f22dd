-- Names compared byte by byte, and looked for among the entries kept so far.
-- Assumes nothing.
use mathlib.Core.Path.{◌≡◌, refl, sym, ap, ◌∙◌}
use mathlib.Core.List.{List, [], ◌∷◌}
use lib.Pointwise.{pointwise}
use mathlib.Core.Bool.{Bool, true, false, not, ◌&&◌}
use Prim.Native.Nat.{ℕ, zero, suc, ◌+◌, ◌≤◌, ◌<◌}
use native.Mathlib.Omega.{arith}
use lib.ListN.{length, get_or}
use lib.Dec.{eqb}
use borrow.Author.Tests.{eq-eqb, ne_eqb, lt-leb, le-leb, not-true, not-false}
use Rattle.std.specs.Prelude.{is_some}
use Rattle.store.specs.Entry.{entry, kind, name, of_kind}
use Rattle.cells.proofs.Scan.{Seeking}
use Rattle.finding.specs.Find.{same_name, titled}
use Rattle.finding.proofs.Finding.{seek-here, seek-none}
use Rattle.store_sound.specs.Sound.{named_ok}
use Rattle.verdicts.specs.Verdicts.{kept, is_kept, kept_as, name_kept, wrong_name}

-- ---- an entry's name and 8 bytes, compared as lists

and-right : (a b c d e f g h : Bool)
    → (a && (b && (c && (d && (e && (f && (g && (h && true)))))))) ≡ (((((((a && b) && c) && d) && e) && f) && g) && h)
and-right false b c d e f g h = refl
and-right true false c d e f g h = refl
and-right true true false d e f g h = refl
and-right true true true false e f g h = refl
and-right true true true true false f g h = refl
and-right true true true true true false g h = refl
and-right true true true true true true false h = refl
and-right true true true true true true true false = refl
and-right true true true true true true true true = refl

pub name-same : (e t : List ℕ) → length t ≡ 8 → pointwise eqb (name e) t ≡ same_name e t
unfolding name same_name
name-same e [] h = absurd (omega arith)
name-same e (x0 ∷ []) h = absurd (omega arith)
name-same e (x0 ∷ x1 ∷ []) h = absurd (omega arith)
name-same e (x0 ∷ x1 ∷ x2 ∷ []) h = absurd (omega arith)
name-same e (x0 ∷ x1 ∷ x2 ∷ x3 ∷ []) h = absurd (omega arith)
name-same e (x0 ∷ x1 ∷ x2 ∷ x3 ∷ x4 ∷ []) h = absurd (omega arith)
name-same e (x0 ∷ x1 ∷ x2 ∷ x3 ∷ x4 ∷ x5 ∷ []) h = absurd (omega arith)
name-same e (x0 ∷ x1 ∷ x2 ∷ x3 ∷ x4 ∷ x5 ∷ x6 ∷ []) h = absurd (omega arith)
name-same e (x0 ∷ x1 ∷ x2 ∷ x3 ∷ x4 ∷ x5 ∷ x6 ∷ x7 ∷ []) h = and-right (eqb (get_or e 2 0) x0) (eqb (get_or e 3 0) x1) (eqb (get_or e 4 0) x2) (eqb (get_or e 5 0) x3) (eqb (get_or e 6 0) x4) (eqb (get_or e 7 0) x5) (eqb (get_or e 8 0) x6) (eqb (get_or e 9 0) x7)
name-same e (x0 ∷ x1 ∷ x2 ∷ x3 ∷ x4 ∷ x5 ∷ x6 ∷ x7 ∷ x8 ∷ xs) h = absurd (omega arith)

-- ---- entry j is kept, of a kind, and bears a name

module _ (directory verdicts t : List ℕ) (p : Bool) (j v : ℕ) (ev : v ≡ get_or verdicts j 0) where
  pub as_dropped : (v ≡ kept → ⊥) → false ≡ (is_kept verdicts j && titled directory p t j)
  as_dropped n = rw (ne_eqb (get_or verdicts j 0) kept (λ z. n (ev ∙ z)))

  module _ (k : ℕ) (o : Bool) (y : v ≡ kept) (ek : k ≡ kind (entry directory j)) (eo : o ≡ of_kind p k) where
    pub as-other : o ≡ false → false ≡ (is_kept verdicts j && titled directory p t j)
    unfolding titled
    as-other q = rw (eq-eqb (get_or verdicts j 0) kept (sym ev ∙ y), ← ek, ← eo, q)

    pub as-named : (r : Bool) → o ≡ true → r ≡ same_name (entry directory j) t → r ≡ (is_kept verdicts j && titled directory p t j)
    unfolding titled
    as-named r q er = rw (eq-eqb (get_or verdicts j 0) kept (sym ev ∙ y), ← ek, ← eo, q) er

-- ---- a pass over the entries before i, standing at j

module _ (directory verdicts : List ℕ) (i j : ℕ) (s : Seeking (kept_as directory verdicts i) i j) where
  pub kept-none : i ≤ j → false ≡ name_kept directory verdicts i
  unfolding name_kept
  kept-none h = ap is_some (seek-none (kept_as directory verdicts i) i j h s)

  pub kept_here : j < i → kept_as directory verdicts i j ≡ true → true ≡ name_kept directory verdicts i
  unfolding name_kept
  kept_here h e = ap is_some (seek-here (kept_as directory verdicts i) i j h e s)

-- ---- the kind, the legal name, a name already kept

module _ (directory verdicts : List ℕ) (i k : ℕ) (ek : k ≡ kind (entry directory i)) where
  pub name-kind : 3 < k → true ≡ wrong_name directory verdicts i
  unfolding wrong_name
  name-kind h = rw (lt-leb (kind (entry directory i)) 3 (omega arith))

  module _ (h : k ≤ 3) (n : Bool) (en : n ≡ named_ok directory i) where
    pub name-illegal : not n ≡ true → true ≡ wrong_name directory verdicts i
    unfolding wrong_name
    name-illegal q = rw (le-leb (kind (entry directory i)) 3 (omega arith), sym en ∙ not-true n q)

    pub name-rest : (r : Bool) → not n ≡ false → r ≡ name_kept directory verdicts i → r ≡ wrong_name directory verdicts i
    unfolding wrong_name
    name-rest r q er = rw (le-leb (kind (entry directory i)) 3 (omega arith), sym en ∙ not-false n q) er
