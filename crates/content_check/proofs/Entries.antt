-- The content of one entry, and of all.
use mathlib.Core.Path.{◌≡◌, refl, sym, ap, ◌∙◌}
use mathlib.Core.Bool.{Bool, true, false, not, ◌&&◌, ◌||◌}
use mathlib.Core.List.{List}
use Prim.Native.Nat.{ℕ, ◌+◌, ◌≤◌, ◌<◌, min}
use native.Mathlib.Omega.{arith}
use lib.ListN.{length, take}
use lib.Seq.{sets}
use borrow.Author.Tests.{eqb-true}
use Rattle.cells.specs.Count.{all_to}
use Rattle.cells.proofs.Counts.{all-at, all_of, all-not, all_more}
use Rattle.cells.proofs.Sets.{sets-front}
use Rattle.contents.specs.declared.Cursor.{Cursor}
use Rattle.store.specs.Entry.{entries, entry, kind, of_kind}
use Rattle.contents.specs.Content.{content, cursor_at}
use Rattle.contents.proofs.Reading.{length-content}
use Rattle.pcx.specs.Rules.{legal}
use Rattle.pcx.proofs.Rules.{legal-says}
use Rattle.forms.specs.Form.{form_ok}
use Rattle.content_check.specs.Contents.{form_sound, content_ok, contents_ok}

-- ---- a picture

pub legal-short : (xs : List ℕ) → 32768 < length xs → false ≡ legal xs
legal-short xs h = told (legal xs) refl
  where
    told : (b : Bool) → legal xs ≡ b → false ≡ legal xs
    told true e = absurd (omega (arith, (legal-says xs e).header.long))
    told false e = sym e

module _ (store links directory : List ℕ) (i : ℕ) (c : Cursor) (at : c ≡ cursor_at links directory i) where
  long : length (content store links directory i) ≡ c.left
  long = length-content store links directory i ∙ sym (ap (λ (d : Cursor). d.left) at)

  pub picture-long : 32768 < c.left → false ≡ legal (content store links directory i)
  picture-long h = legal-short (content store links directory i) (omega (arith, long))

  pub picture-whole : (buffer out front : List ℕ) (n : ℕ) (r : Bool) → length buffer ≡ 32768 → c.left ≤ 32768
      → out ≡ sets buffer 0 (content store links directory i) → n ≡ min (length (content store links directory i)) (length buffer)
      → front ≡ take n out → r ≡ legal front → r ≡ legal (content store links directory i)
  picture-whole buffer out front n r b h eo en ef e =
      let m : n ≡ length (content store links directory i) = omega (arith, long) in
      let k : length (content store links directory i) ≤ length buffer = omega (arith, long) in
      e ∙ ap legal (ef ∙ ap (λ (l : List ℕ). take n l) eo ∙ ap (λ (j : ℕ). take j (sets buffer 0 (content store links directory i))) m
      ∙ sets-front buffer (content store links directory i) k)

-- ---- an entry: a picture is no form

picture-alone : (k : ℕ) → of_kind true k ≡ true → of_kind false k ≡ false
picture-alone k h = rw (eqb-true k 2 h)

module _ (store links directory : List ℕ) (i k : ℕ) (at : k ≡ kind (entry directory i)) (o : Bool) where
  pub form-is : (r : Bool) → o ≡ of_kind false k → o ≡ true → r ≡ form_ok (content store links directory i) → r ≡ form_sound store links directory i
  form-is r eo t e = rw (← at, ← eo, t) e

  pub form-none : o ≡ of_kind false k → o ≡ false → true ≡ form_sound store links directory i
  form-none eo t = rw (← at, ← eo, t)

  pub content-picture : (r : Bool) → o ≡ of_kind true k → o ≡ true → r ≡ legal (content store links directory i) → r ≡ content_ok store links directory i
  unfolding content_ok
  content-picture r eo t e = rw (← at, picture-alone k (sym eo ∙ t), ← eo, t) e

  pub content-rest : (r : Bool) → o ≡ of_kind true k → o ≡ false → r ≡ form_sound store links directory i → r ≡ content_ok store links directory i
  unfolding content_ok
  content-rest r eo t e = e ∙ rest (form_sound store links directory i) (legal (content store links directory i)) (sym (ap (of_kind true) at) ∙ sym eo ∙ t)
    where
      rest : (f l : Bool) → of_kind true (kind (entry directory i)) ≡ false → f ≡ (f && (not (of_kind true (kind (entry directory i))) || l))
      rest true l q = rw q
      rest false l q = refl

-- ---- all entries, standing at i

module _ (store links directory : List ℕ) (i : ℕ) where
  pub contents-step : (r : Bool) → all_to (content_ok store links directory) i ≡ true → r ≡ content_ok store links directory i → r ≡ true
      → all_to (content_ok store links directory) (i + 1) ≡ true
  contents-step r h e t = all_more (content_ok store links directory) i h (sym e ∙ t)

  pub contents-stop : (r : Bool) → i < entries directory → r ≡ content_ok store links directory i → r ≡ false → false ≡ contents_ok store links directory
  unfolding contents_ok
  contents-stop r l e t = sym (all-not (content_ok store links directory) (entries directory) i l (sym e ∙ t))

  pub contents-done : entries directory ≤ i → all_to (content_ok store links directory) i ≡ true → true ≡ contents_ok store links directory
  unfolding contents_ok
  contents-done l h =
      sym (all_of (content_ok store links directory) (entries directory) (λ j b. all-at (content_ok store links directory) i h j (omega arith)))
