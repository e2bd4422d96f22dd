-- A name compared with an entry's as one number.
use mathlib.Core.Path.{◌≡◌, refl, sym, ap, ◌∙◌}
use mathlib.Core.List.{List}
use mathlib.Core.Bool.{Bool, true, false, ◌&&◌}
use mathlib.Core.Logic.{⊎_elim}
use Prim.Native.Nat.{ℕ, ◌+◌, ◌*◌, ◌<◌}
use native.Mathlib.Omega.{arith}
use lib.ListN.{get_or}
use lib.Dec.{eqb}
use borrow.Author.Tests.{eq-eqb, ne_eqb}
use Rattle.cells.proofs.Cells.{cell_at}
use Rattle.ground.proofs.Tests.{same?}
use Rattle.store.specs.Entry.{entry, kind, of_kind}
use Rattle.finding.specs.Find.{same_name, titled, found}
use Rattle.finding.specs.Bytes.{two, four, eight, titled_by}

-- ---- two numbers are the same where their parts are

module _ (x y u v X Y : ℕ) (low : X ≡ Y → x ≡ u) (high : X ≡ Y → y ≡ v) (whole : x ≡ u → y ≡ v → X ≡ Y) where
  parts : eqb X Y ≡ (eqb x u && eqb y v)
  parts = ⊎_elim
      (λ (e : x ≡ u). ⊎_elim
      (λ (f : y ≡ v). rw (eq-eqb X Y (whole e f), eq-eqb x u e, eq-eqb y v f))
      (λ (n : y ≡ v → ⊥). rw (ne_eqb X Y (λ z. n (high z)), eq-eqb x u e, ne_eqb y v n))
      (same? y v))
      (λ (n : x ≡ u → ⊥). rw (ne_eqb X Y (λ z. n (low z)), ne_eqb x u n))
      (same? x u)

and-nested : (a b c d e f g h : Bool)
    → (((a && b) && (c && d)) && ((e && f) && (g && h))) ≡ (((((((a && b) && c) && d) && e) && f) && g) && h)
and-nested false b c d e f g h = refl
and-nested true false c d e f g h = refl
and-nested true true false d e f g h = refl
and-nested true true true false e f g h = refl
and-nested true true true true false f g h = refl
and-nested true true true true true false g h = refl
and-nested true true true true true true g h = refl

and-turned : (a b : Bool) → (a && b) ≡ (b && a)
and-turned true true = refl
and-turned true false = refl
and-turned false true = refl
and-turned false false = refl

-- ---- the bytes of lists

module _ (s : List ℕ) (bytes : (k : ℕ) → get_or s k 0 < 256) where
  two-few : (at : ℕ) → two s at < 65536
  unfolding two
  two-few at = omega (arith, bytes at, bytes (at + 1))

  four-few : (at : ℕ) → four s at < 4294967296
  unfolding four
  four-few at = omega (arith, two-few at, two-few (at + 2))

module _ (directory title : List ℕ) (i : ℕ) (bd : (k : ℕ) → get_or directory k 0 < 256) (bt : (k : ℕ) → get_or title k 0 < 256) where
  abbrev same : ℕ → Bool
  same k = eqb (get_or (entry directory i) (2 + k) 0) (get_or title k 0)

  here : (q k : ℕ) → q ≡ i * 16 + 2 + k → k < 14 → get_or directory q 0 ≡ get_or (entry directory i) (2 + k) 0
  here q k e h = ap (λ (p : ℕ). get_or directory p 0) (let z : q ≡ i * 16 + (2 + k) = omega arith in z) ∙ sym (cell_at 16 directory i (2 + k) (omega arith))

  two-says : (q k : ℕ) → q ≡ i * 16 + 2 + k → k < 13 → eqb (two directory q) (two title k) ≡ (same k && same (k + 1))
  unfolding two
  two-says q k e h =
      parts (get_or directory q 0) (get_or directory (q + 1) 0) (get_or title k 0) (get_or title (k + 1) 0) (two directory q) (two title k)
      (λ z. omega (arith, bd q, bt k)) (λ z. omega (arith, bd q, bt k)) (λ x y. omega arith)
      ∙ rw (here q k e (omega arith), here (q + 1) (k + 1) (omega arith) (omega arith))

  four-says : (q k : ℕ) → q ≡ i * 16 + 2 + k → k < 11 → eqb (four directory q) (four title k) ≡ ((same k && same (k + 1)) && (same (k + 2) && same (k + 2 + 1)))
  unfolding four
  four-says q k e h =
      parts (two directory q) (two directory (q + 2)) (two title k) (two title (k + 2)) (four directory q) (four title k)
      (λ z. omega (arith, two-few directory bd q, two-few title bt k)) (λ z. omega (arith, two-few directory bd q, two-few title bt k)) (λ x y. omega arith)
      ∙ rw (two-says q k e (omega arith), two-says (q + 2) (k + 2) (omega arith) (omega arith))

  eight-says : eqb (eight directory (i * 16 + 2)) (eight title 0) ≡ same_name (entry directory i) title
  unfolding eight same_name
  eight-says =
      parts (four directory (i * 16 + 2)) (four directory (i * 16 + 2 + 4)) (four title 0) (four title 4) (eight directory (i * 16 + 2)) (eight title 0)
      (λ z. omega (arith, four-few directory bd (i * 16 + 2), four-few title bt 0)) (λ z. omega (arith, four-few directory bd (i * 16 + 2), four-few title bt 0)) (λ x y. omega arith)
      ∙ rw (four-says (i * 16 + 2) 0 (omega arith) (omega arith), four-says (i * 16 + 2 + 4) 4 (omega arith) (omega arith))
      (and-nested (same 0) (same 1) (same 2) (same 3) (same 4) (same 5) (same 6) (same 7))

  by_number : (picture : Bool) (w : ℕ) → w ≡ eight title 0 → titled_by directory picture w i ≡ titled directory picture title i
  unfolding titled_by titled
  by_number picture w e = rw (e, eight-says) (and-turned (same_name (entry directory i) title) (of_kind picture (kind (entry directory i))))

pub found-by-number : (directory title : List ℕ) (picture : Bool) (w n : ℕ) → ((k : ℕ) → get_or directory k 0 < 256) → ((k : ℕ) → get_or title k 0 < 256) → w ≡ eight title 0
    → found (titled_by directory picture w) n ≡ found (titled directory picture title) n
found-by-number directory title picture w n bd bt e = ap (λ (test : ℕ → Bool). found test n) (λ j i. by_number directory title i bd bt picture w e j)
