-- What a line's first letter tells of its item: only a line that begins with G draws a picture, and only one that begins with V, C or T declares or says a format.
-- Assumes nothing.
use Rattle.std.proofs.Common.{Option, Some, None, Result, Ok, Err}
use mathlib.Core.Path.{◌≡◌, ◌∙◌, refl, sym}
use mathlib.Core.Bool.{Bool, true, false, not, cond, ◌&&◌, ◌||◌, false≢true}
use mathlib.Core.List.{List, [], ◌∷◌}
use Prim.Native.Char.{code}
use Prim.Native.Nat.{ℕ, suc}
use native.Mathlib.Omega.{arith}
use lib.ListN.{length, get_or}
use lib.Dec.{eqb}
use borrow.Author.Tests.{ne_eqb}
use Rattle.grammar.specs.declared.Item.{Item}
use Rattle.declarations.specs.declared.Declared.{Declared}
use Rattle.heads.specs.Heads.{capitals, letters_of, begins, or_else, find, head_by, head_of}
use Rattle.grammar.specs.Named.{GG, VARIABLE, COUNTER, TD, TT}
use Rattle.grammar.specs.Forms.{Form, forms, row_of, bounds_of, command_of, in_order}
use Rattle.grammar.proofs.Rows.{◌&◌, Each, each_row}
use Rattle.kept_line.specs.Reading.{Got, good, bad, fields_from}
use Rattle.kept_line.specs.Limits.{limits_from}
use Rattle.read.specs.Commands.{decided, judged, headed, read_of}
use Rattle.kept_line.specs.Written.{is_normal}
use Rattle.recording.specs.Judged.{declares, has_picture}
use Rattle.kept_line.specs.Held.{held_command, held_read, item_in}
use Rattle.forms.specs.Form.{declaring, declares_stored, has_stored}

-- ---- the rows that a letter can name

-- each row that `ok` does not name begins with another letter than a
unfoldable others : (ℕ → Bool) → ℕ → List Form → ℕ → Bool
others ok a [] i = true
others ok a (f ∷ fs) i = (ok i || not (eqb a (get_or f.fields 0 0))) && others ok a fs (suc i)

both : (x y : Bool) → (x && y) ≡ true → (x ≡ true) × (y ≡ true)
both true y h = (refl, h)
both false y h = absurd (false≢true h)

named : (x o : Bool) → x ≡ true → (o || not x) ≡ true → o ≡ true
named x true h k = refl
named true false h k = k
named false false h k = absurd (false≢true h)

first-begun : (l : List ℕ) (n a : ℕ) (s : List ℕ) → (eqb (length (letters_of l)) (suc n) && begins (letters_of l) (a ∷ s)) ≡ true → eqb a (get_or l 0 0) ≡ true
first-begun [] n a s h = absurd (false≢true (sym (ne_eqb 0 (suc n) (λ q. omega arith)) ∙ (both (eqb 0 (suc n)) true h).0))
first-begun (x ∷ xs) n a s h =
    (both (eqb a x) (begins (capitals xs) s) (both (eqb (length (letters_of (x ∷ xs))) (suc n)) (begins (letters_of (x ∷ xs)) (a ∷ s)) h).1).0

found : (ok : ℕ → Bool) (n a : ℕ) (s : List ℕ) (fs : List Form) (i : ℕ) → others ok a fs i ≡ true → (r : ℕ) → find (suc n) fs i (a ∷ s) ≡ Some r → ok r ≡ true
unfolding find others
found ok n a s [] i h r e = absurd (let z : ◌≡◌ {A = ℕ} 0 1 = cc in omega arith)
found ok n a s (f ∷ fs) i h r e =
    go (eqb (length (letters_of f.fields)) (suc n) && begins (letters_of f.fields) (a ∷ s)) refl e (found ok n a s fs (suc i) parts.1 r)
  where
    parts : ((ok i || not (eqb a (get_or f.fields 0 0))) ≡ true) × (others ok a fs (suc i) ≡ true)
    parts = both _ _ h

    go :
        (x : Bool) → (eqb (length (letters_of f.fields)) (suc n) && begins (letters_of f.fields) (a ∷ s)) ≡ x
        → cond x (Some i) (find (suc n) fs (suc i) (a ∷ s)) ≡ Some r → (find (suc n) fs (suc i) (a ∷ s) ≡ Some r → ok r ≡ true) → ok r ≡ true
    go true begun e₂ rest = let m : i ≡ r = cc in rw m at (named (eqb a (get_or f.fields 0 0)) (ok i) (first-begun f.fields n a s begun) parts.0)
    go false begun e₂ rest = rest e₂

-- three letters, two, or one
found-head : (ok : ℕ → Bool) (a b c : ℕ) → others ok a forms 0 ≡ true → (r : ℕ) → head_by a b c ≡ Some r → ok r ≡ true
unfolding head_by
found-head ok a b c h r e = by (find 3 forms 0 s) (find 2 forms 0 s) refl refl e
  where
    s : List ℕ
    s = a ∷ b ∷ c ∷ []

    by : (x y : Option ℕ) → find 3 forms 0 s ≡ x → find 2 forms 0 s ≡ y → or_else x (or_else y (find 1 forms 0 s)) ≡ Some r → ok r ≡ true
    by (Some i) y p q e = found ok 2 a (b ∷ c ∷ []) forms 0 h r (p ∙ e)
    by None (Some i) p q e = found ok 1 a (b ∷ c ∷ []) forms 0 h r (q ∙ e)
    by None None p q e = found ok 0 a (b ∷ c ∷ []) forms 0 h r e

-- ---- what a line holds, by its row

-- what a row that `ok` names makes, held as a line of a form
abbrev Holding : (Option Item → Type 0) → (ℕ → Bool) → ℕ → Form → Type 0
Holding q ok k f = ok k ≡ true → (s : List ℕ) (v p : ℕ → ℕ) → q (held_command (f.makes s v p))

-- what holds of nothing and of each row that `ok` names holds of a line whose letters name no other row
module _ (q : Option Item → Type 0) (none : q None) (ok : ℕ → Bool) (makes : Each (Holding q ok) forms) (line : List ℕ)
    (rows : others ok (get_or line 0 0) forms 0 ≡ true) where
  command-is : (r : ℕ) (v p : List ℕ) → ok r ≡ true → q (held_command (command_of r line v p))
  command-is r v p h =
      each_row (Holding q ok) makes r h line (λ i. get_or (in_order (row_of r).fields 0 v) i 0) (λ i. get_or (in_order (row_of r).fields 0 p) i 0)

  read_is : q (held_read (read_of 1 line))
  unfolding read_of headed judged head_of
  read_is = by (head_by (get_or line 0 0) (get_or line 1 0) (get_or line 2 0)) refl
    where
      limited : (l : Result Unit ℕ) (r : ℕ) (v p : List ℕ) → ok r ≡ true → q (held_read (decided l (command_of r line v p)))
      limited (Ok u) r v p h = command-is r v p h
      limited (Err at) r v p h = none

      fields : (g : Got) (r : ℕ) → ok r ≡ true → q (held_read (judged r 1 line g))
      fields (good v p) r h = limited (limits_from (row_of r).fields (bounds_of r 1) line 0 v p) r v p h
      fields (bad v p at) r h = none

      by : (x : Option ℕ) → head_by (get_or line 0 0) (get_or line 1 0) (get_or line 2 0) ≡ x → q (held_read (headed x 1 line))
      by (Some r) e = fields (fields_from (row_of r).fields line 0) r (found-head ok (get_or line 0 0) (get_or line 1 0) (get_or line 2 0) rows r e)
      by None e = none

  item-is : q (item_in line)
  unfolding item_in
  item-is = by (is_normal line)
    where
      by : (b : Bool) → q (cond b (held_read (read_of 1 line)) None)
      by true = read_is
      by false = none

-- ---- the letters of pictures and declarations

pub has_other : (directory line : List ℕ) (a : ℕ) → a ≡ get_or line 0 0 → (a ≡ code "G" → ⊥) → true ≡ has_stored directory line (item_in line)
unfolding has_picture others
has_other directory line a e n =
    sym (item-is (λ (s : Option Item). has_stored directory line s ≡ true) refl other makes line rows)
  where
    other : ℕ → Bool
    other r = not (eqb r GG)

    makes : Each (Holding (λ (s : Option Item). has_stored directory line s ≡ true) other) forms
    makes =
        (λ e s v p. refl)
        & (λ e s v p. refl)
        & (λ e s v p. refl)
        & (λ e s v p. refl)
        & (λ e s v p. refl)
        & (λ e s v p. refl)
        & (λ e s v p. refl)
        & (λ e s v p. refl)
        & (λ e s v p. refl)
        & (λ e s v p. refl)
        & (λ e s v p. refl)
        & (λ e s v p. absurd (false≢true e))
        & (λ e s v p. refl)
        & (λ e s v p. refl)
        & (λ e s v p. refl)
        & (λ e s v p. refl)
        & (λ e s v p. refl)
        & (λ e s v p. refl)
        & (λ e s v p. refl)
        & (λ e s v p. refl)
        & (λ e s v p. refl)
        & (λ e s v p. refl)
        & (λ e s v p. refl)
        & (λ e s v p. refl)
        & (λ e s v p. refl)
        & (λ e s v p. refl)
        & (λ e s v p. refl)
        & (λ e s v p. refl)
        & (λ e s v p. refl)
        & (λ e s v p. refl)
        & (λ e s v p. refl)
        & (λ e s v p. refl)
        & (λ e s v p. refl)
        & (λ e s v p. refl)
        & (λ k e s v p. refl)

    rows : others other (get_or line 0 0) forms 0 ≡ true
    rows = rw (← e, ne_eqb a (code "G") n)

pub declaring-other : (d : Declared) (line : List ℕ) (a : ℕ) → a ≡ get_or line 0 0 → (a ≡ code "V" → ⊥) → (a ≡ code "C" → ⊥) → (a ≡ code "T" → ⊥) → d ≡ declaring d line
unfolding declares declaring others
declaring-other d line a e n m k =
    sym (item-is (λ (s : Option Item). declares_stored d s ≡ d) refl other makes line rows)
  where
    other : ℕ → Bool
    other r = not (eqb r VARIABLE) && (not (eqb r COUNTER) && (not (eqb r TD) && not (eqb r TT)))

    makes : Each (Holding (λ (s : Option Item). declares_stored d s ≡ d) other) forms
    makes =
        (λ e s v p. refl)
        & (λ e s v p. refl)
        & (λ e s v p. refl)
        & (λ e s v p. refl)
        & (λ e s v p. refl)
        & (λ e s v p. refl)
        & (λ e s v p. refl)
        & (λ e s v p. refl)
        & (λ e s v p. refl)
        & (λ e s v p. refl)
        & (λ e s v p. refl)
        & (λ e s v p. refl)
        & (λ e s v p. refl)
        & (λ e s v p. refl)
        & (λ e s v p. refl)
        & (λ e s v p. refl)
        & (λ e s v p. refl)
        & (λ e s v p. refl)
        & (λ e s v p. refl)
        & (λ e s v p. refl)
        & (λ e s v p. refl)
        & (λ e s v p. refl)
        & (λ e s v p. absurd (false≢true e))
        & (λ e s v p. absurd (false≢true e))
        & (λ e s v p. refl)
        & (λ e s v p. refl)
        & (λ e s v p. refl)
        & (λ e s v p. refl)
        & (λ e s v p. refl)
        & (λ e s v p. refl)
        & (λ e s v p. refl)
        & (λ e s v p. refl)
        & (λ e s v p. absurd (false≢true e))
        & (λ e s v p. absurd (false≢true e))
        & (λ k e s v p. refl)

    rows : others other (get_or line 0 0) forms 0 ≡ true
    rows = rw (← e, ne_eqb a (code "V") n, ne_eqb a (code "C") m, ne_eqb a (code "T") k)
