-- A form that grows by a line: recording is one step of the fold. And the empty form.
-- Assumes nothing.
use mathlib.Core.Path.{◌≡◌, refl, sym, ap, ◌∙◌}
use mathlib.Core.Bool.{Bool, true, ◌&&◌, and_assoc}
use mathlib.Core.List.{List, [], ◌∷◌, ◌++◌}
use mathlib.Core.Logic.{◌⊎◌, ⊎_elim}
use Prim.Native.Nat.{ℕ}
use native.Mathlib.Omega.{arith}
use lib.ListN.{length}
use lib.Dec.{eqb}
use borrow.Author.Tests.{eq-eqb, ne_eqb, eqb-true}
use Rattle.content_lines.specs.Lines.{Lines, lines, onto, with_byte, lines_of}
use Rattle.declarations.specs.declared.Declared.{Declared}
use Rattle.declarations.specs.Declarations.{nothing}
use Rattle.ground.proofs.Tests.{same?, and_left, and_right}
use Rattle.forms.specs.Form.{takes, declaring, takes_all, declared_by, has_all, form_ok, declared_of, pictures_stored}

-- ---- the fold over appended lines is the fold continued

pub takes_all-append : (d : Declared) (ks ls : List (List ℕ)) → takes_all d (ks ++ ls) ≡ (takes_all d ks && takes_all (declared_by d ks) ls)
unfolding takes_all declared_by
takes_all-append d [] ls = refl
takes_all-append d (k ∷ ks) ls =
    ap (λ (x : Bool). takes d k && x) (takes_all-append (declaring d k) ks ls)
    ∙ sym (and_assoc (takes d k) (takes_all (declaring d k) ks) (takes_all (declared_by (declaring d k) ks) ls))

pub declared_by-append : (d : Declared) (ks ls : List (List ℕ)) → declared_by d (ks ++ ls) ≡ declared_by (declared_by d ks) ls
unfolding declared_by
declared_by-append d [] ls = refl
declared_by-append d (k ∷ ks) ls = declared_by-append (declaring d k) ks ls

-- ---- a line more

-- no LF among the bytes
abbrev pub Inside : List ℕ → Type 0
Inside [] = Unit
Inside (b ∷ bs) = (b ≡ 10 → ⊥) × Inside bs

line-alone : (l : List ℕ) → Inside l → lines_of (l ++ (10 ∷ [])) ≡ lines (l ∷ []) []
unfolding lines_of
line-alone [] h = refl
line-alone (b ∷ bs) h = rw (ne_eqb b 10 h.0) (ap (onto (b ∷ [])) (line-alone bs h.1))

onto-grow : (b : ℕ) (w : List (List ℕ)) (r l : List ℕ)
    → onto (b ∷ []) (lines (w ++ ((r ++ l) ∷ [])) []) ≡ lines ((onto (b ∷ []) (lines w r)).whole ++ (((onto (b ∷ []) (lines w r)).rest ++ l) ∷ [])) []
onto-grow b [] r l = refl
onto-grow b (m ∷ ms) r l = refl

pub lines-grow : (c l : List ℕ) → Inside l → lines_of (c ++ (l ++ (10 ∷ []))) ≡ lines ((lines_of c).whole ++ (((lines_of c).rest ++ l) ∷ [])) []
unfolding lines_of
lines-grow [] l h = line-alone l h
lines-grow (b ∷ bs) l h = ⊎_elim
    (λ (e : b ≡ 10). rw (eq-eqb b 10 e) (ap (with_byte true b) (lines-grow bs l h)))
    (λ (n : b ≡ 10 → ⊥). rw (ne_eqb b 10 n) (ap (onto (b ∷ [])) (lines-grow bs l h) ∙ onto-grow b (lines_of bs).whole (lines_of bs).rest l))
    (same? b 10)

no_length : (l : List ℕ) → length l ≡ 0 → l ≡ []
no_length [] e = refl
no_length (x ∷ xs) e = absurd (omega arith)

module _ (bytes line : List ℕ) (good : form_ok bytes ≡ true) (inside : Inside line) where
  ended : (lines_of bytes).rest ≡ []
  unfolding form_ok
  ended = no_length (lines_of bytes).rest (eqb-true (length (lines_of bytes).rest) 0 (and_left (eqb (length (lines_of bytes).rest) 0) (takes_all nothing (lines_of bytes).whole) good))

  taken : takes_all nothing (lines_of bytes).whole ≡ true
  unfolding form_ok
  taken = and_right (eqb (length (lines_of bytes).rest) 0) (takes_all nothing (lines_of bytes).whole) good

  grown : lines_of (bytes ++ (line ++ (10 ∷ []))) ≡ lines ((lines_of bytes).whole ++ (line ∷ [])) []
  grown = lines-grow bytes line inside ∙ ap (λ (r : List ℕ). lines ((lines_of bytes).whole ++ ((r ++ line) ∷ [])) []) ended

  pub form_ok-grows : takes (declared_of bytes) line ≡ true → form_ok (bytes ++ (line ++ (10 ∷ []))) ≡ true
  unfolding form_ok declared_of takes_all
  form_ok-grows t =
      ap (λ (s : Lines). eqb (length s.rest) 0 && takes_all nothing s.whole) grown
      ∙ takes_all-append nothing (lines_of bytes).whole (line ∷ [])
      ∙ rw (taken, t)

  pub declared_of-grows : declared_of (bytes ++ (line ++ (10 ∷ []))) ≡ declaring (declared_of bytes) line
  unfolding declared_of declared_by
  declared_of-grows = ap (λ (s : Lines). declared_by nothing s.whole) grown ∙ declared_by-append nothing (lines_of bytes).whole (line ∷ [])

-- ---- the empty form

pub form_ok-empty : form_ok [] ≡ true
unfolding form_ok lines_of takes_all
form_ok-empty = refl

pub declared_of-empty : declared_of [] ≡ nothing
unfolding declared_of lines_of declared_by
declared_of-empty = refl

pub pictures_stored-empty : (directory : List ℕ) → pictures_stored directory [] ≡ true
unfolding pictures_stored lines_of has_all
pictures_stored-empty directory = refl
