-- Walks over a form: a line more, and from start to end.
-- Assumes nothing.
use Rattle.std.proofs.Common.{Some, None}
use mathlib.Core.Path.{◌≡◌, refl, sym, ap, ◌∙◌}
use mathlib.Core.Bool.{Bool, true, false, ◌&&◌, and-false, and-true, and_assoc}
use mathlib.Core.List.{List, [], ◌∷◌}
use Prim.Native.Nat.{ℕ, zero, suc, ◌≤◌, ◌<◌}
use native.Mathlib.Omega.{arith}
use native.Mathlib.Decide.{dec_le}
use lib.ListN.{length}
use lib.Dec.{eqb}
use borrow.Author.Tests.{ne_eqb}
use Rattle.contents.specs.declared.Cursor.{Cursor}
use Rattle.contents.specs.Content.{bytes_from, content_of, content, cursor_at}
use Rattle.content_lines.specs.Lines.{lines_of, line_of}
use Rattle.contents.proofs.Reading.{length-bytes}
use Rattle.declarations.specs.declared.Declared.{Declared}
use Rattle.grammar.specs.declared.Item.{Item}
use Rattle.kept_line.specs.Held.{item_in}
use Rattle.form_lines.specs.Walk.{line_in, behind}
use Rattle.form_lines.proofs.Walking.{line_read, walk-less}
use Rattle.form_lines.proofs.Folding.{lines_next, lines-last, line-good, line-long, line-cut, fold_step}
use Rattle.kept_line.proofs.Standing.{item-empty, item-long}
use Rattle.recording.specs.Judged.{declares}
use Rattle.forms.specs.declared.Walk.{Walk}
use Rattle.forms.specs.Form.{takes, declaring, takes_all, declared_by, has_stored, has_all, form_ok, declared_of, pictures_stored}
use Rattle.forms.specs.Walk.{started, rest_ok, walk_ok, walk_declared, walk_has}

-- ---- what a line holds

module _ (l : List ℕ) (e : item_in l ≡ None) where
  pub takes_none : (d : Declared) → takes d l ≡ false
  unfolding takes
  takes_none d = rw e

  pub declaring-none : (d : Declared) → declaring d l ≡ d
  unfolding declaring
  declaring-none d = rw e

  pub has-none : (directory : List ℕ) (b : Bool) → (b && has_stored directory l (item_in l)) ≡ b
  has-none directory b = rw e (and-true b)

pub declaring-holds : (d : Declared) (l : List ℕ) (it : Item) → item_in l ≡ Some it → declaring d l ≡ declares d it
unfolding declaring
declaring-holds d l it e = rw e

-- ---- a step of a fold

and-swap : (a b c : Bool) → (a && (b && c)) ≡ (b && (a && c))
and-swap true b c = refl
and-swap false true c = refl
and-swap false false c = refl

pub declared-step : (d : Declared) (a : List ℕ) → declared_by (declaring d (line_in a)) (lines_of (behind a)).whole ≡ declared_by d (lines_of a).whole
unfolding declared_by
declared-step d a = fold_step declared_by declaring (λ s l ls. refl) (λ s l e. declaring-none l e s) d a

abbrev has_to : List ℕ → Bool → List (List ℕ) → Bool
has_to directory b ls = b && has_all directory ls

abbrev has_more : List ℕ → Bool → List ℕ → Bool
has_more directory b l = b && has_stored directory l (item_in l)

has_more_lem : (directory : List ℕ) (b : Bool) (l : List ℕ) (ls : List (List ℕ)) → has_to directory b (l ∷ ls) ≡ has_to directory (has_more directory b l) ls
unfolding has_all
has_more_lem directory b l ls = sym (and_assoc b (has_stored directory l (item_in l)) (has_all directory ls))

pub has-step : (directory : List ℕ) (b : Bool) (a : List ℕ)
    → ((b && has_stored directory (line_in a) (item_in (line_in a))) && has_all directory (lines_of (behind a)).whole) ≡ (b && has_all directory (lines_of a).whole)
has-step directory b a = fold_step (has_to directory) (has_more directory) (has_more_lem directory) (λ s l e. has-none l e directory s) b a

pub rest-step : (d : Declared) (a : List ℕ) → 0 < length a → (takes d (line_in a) && rest_ok (declaring d (line_in a)) (behind a)) ≡ rest_ok d a
unfolding rest_ok takes_all
rest-step d a h = go (dec_le (length a) (length (line_of a))) (dec_le (length (line_of a)) 255)
  where
    go : Dec (length a ≤ length (line_of a)) → Dec (length (line_of a) ≤ 255)
        → (takes d (line_in a) && (eqb (length (lines_of (behind a)).rest) 0 && takes_all (declaring d (line_in a)) (lines_of (behind a)).whole))
        ≡ (eqb (length (lines_of a).rest) 0 && takes_all d (lines_of a).whole)
    go (yes c) k = rw (line-cut a c, takes_none [] item-empty d, lines-last a c, ne_eqb (length a) 0 (λ (z : length a ≡ 0). omega arith))
    go (no c) (yes k) =
        rw (line-good a (omega arith) k, lines_next a (omega arith))
        (and-swap (takes d (line_of a)) (eqb (length (lines_of (behind a)).rest) 0) (takes_all (declaring d (line_of a)) (lines_of (behind a)).whole))
    go (no c) (no k) =
        rw (line-long a (omega arith), takes_none [] item-empty d, lines_next a (omega arith), takes_none (line_of a) (item-long (line_of a) (omega arith)) d)
        (sym (and-false (eqb (length (lines_of (behind a)).rest) 0)))

-- ---- a line more of a walk

module _ (store links : List ℕ) (p at left p' at' left' : ℕ) (line : List ℕ) (h : 0 < left)
    (here : line ≡ line_in (bytes_from store links p at left)) (there : bytes_from store links p' at' left' ≡ behind (bytes_from store links p at left)) where
  abbrev b : List ℕ
  b = bytes_from store links p at left

  some : 0 < length b
  some = omega (arith, length-bytes store links p at left)

  abbrev more : Declared → Bool
  more d = rest_ok (declaring d (line_in b)) (behind b)

  pub walk-refused : (d : Declared) → takes d line ≡ false → rest_ok d b ≡ false
  walk-refused d e = sym (rest-step d b some) ∙ ap (λ (x : Bool). x && more d) (sym (ap (takes d) here) ∙ e)

  pub walk-ok : (d d' : Declared) → d' ≡ declaring d line → takes d line ≡ true → rest_ok d' (bytes_from store links p' at' left') ≡ rest_ok d b
  walk-ok d d' ed e = rw (ed, there, here) (ap (λ (x : Bool). x && more d) (sym e ∙ ap (takes d) here) ∙ rest-step d b some)

  pub walk-declared : (d d' : Declared) → d' ≡ declaring d line → declared_by d' (lines_of (bytes_from store links p' at' left')).whole ≡ declared_by d (lines_of b).whole
  walk-declared d d' ed = rw (ed, there, here) (declared-step d b)

  abbrev has_rest : List ℕ → Bool
  has_rest directory = has_all directory (lines_of (behind b)).whole

  pub walk-lacks : (directory : List ℕ) → has_stored directory line (item_in line) ≡ false → has_all directory (lines_of b).whole ≡ false
  walk-lacks directory e =
      sym (has-step directory true b) ∙ ap (λ (x : Bool). x && has_rest directory) (sym (ap (λ (l : List ℕ). has_stored directory l (item_in l)) here) ∙ e)

  pub walk-has : (directory : List ℕ) → has_stored directory line (item_in line) ≡ true
      → has_all directory (lines_of (bytes_from store links p' at' left')).whole ≡ has_all directory (lines_of b).whole
  walk-has directory e =
      rw there
      (ap (λ (x : Bool). x && has_rest directory) (sym e ∙ ap (λ (l : List ℕ). has_stored directory l (item_in l)) here) ∙ has-step directory true b)

-- ---- a walk from start to end

module _ (store links directory : List ℕ) (i : ℕ) (w : Walk) (e : w ≡ started links directory i) where
  pub ok-start : walk_ok store links w ≡ form_ok (content store links directory i)
  unfolding form_ok rest_ok content_of
  ok-start = rw e

  pub declared-start : walk_declared store links w ≡ declared_of (content store links directory i)
  unfolding declared_of content_of
  declared-start = rw e

pub has-start : (store links directory : List ℕ) (i : ℕ) (c : Cursor) → c ≡ cursor_at links directory i → walk_has store links directory c ≡ pictures_stored directory (content store links directory i)
unfolding pictures_stored content_of
has-start store links directory i c e = rw e

module _ (store links : List ℕ) (p at : ℕ) where
  pub ok_end : (left : ℕ) (d : Declared) → left ≤ 0 → true ≡ rest_ok d (bytes_from store links p at left)
  unfolding bytes_from rest_ok lines_of takes_all
  ok_end zero d h = refl
  ok_end (suc left) d h = absurd (omega arith)

  pub declared-end : (left : ℕ) (d : Declared) → left ≤ 0 → d ≡ declared_by d (lines_of (bytes_from store links p at left)).whole
  unfolding bytes_from lines_of declared_by
  declared-end zero d h = refl
  declared-end (suc left) d h = absurd (omega arith)

  pub has_end : (left : ℕ) (directory : List ℕ) → left ≤ 0 → true ≡ has_all directory (lines_of (bytes_from store links p at left)).whole
  unfolding bytes_from lines_of has_all
  has_end zero directory h = refl
  has_end (suc left) directory h = absurd (omega arith)

-- what `judge_next` stands on: the check finds its proof by these
pub ruleset judge_steps = (line_read, walk-refused, walk-ok, walk-less)
