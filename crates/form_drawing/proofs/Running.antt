-- A form drawn line after line.
-- Assumes nothing.
use Rattle.std.proofs.Common.{Option, Some, None}
use mathlib.Core.Path.{◌≡◌, refl, ap, ◌∙◌}
use mathlib.Core.List.{List, [], ◌∷◌, ◌++◌}
use Prim.Native.Nat.{ℕ, zero, suc, ◌≤◌}
use native.Mathlib.Omega.{arith}
use Rattle.grammar.specs.declared.Item.{Item}
use Rattle.contents.specs.Content.{bytes_from}
use Rattle.content_lines.specs.Lines.{lines_of}
use Rattle.kept_line.specs.Held.{item_in}
use Rattle.form_lines.specs.Walk.{line_in, behind}
use Rattle.form_lines.proofs.Folding.{fold_step}
use Rattle.carried.specs.Judged.{declares}
use Rattle.carried.specs.declared.Carried.{Carried}
use Rattle.carried.specs.Carried.{carries}
use Rattle.item_drawing.specs.Draw.{Setting, draws_item}
use Rattle.form_drawing.specs.Draw.{Drawing, drawing, draws_stored, draws_line, draws_lines, form_drawn}
use Rattle.form_drawing.specs.Label.{item_or}

-- ---- the lines of a form

pub draws_lines-append : (g : Setting) (w : Drawing) (ks ls : List (List ℕ)) → draws_lines g w (ks ++ ls) ≡ draws_lines g (draws_lines g w ks) ls
unfolding draws_lines
draws_lines-append g w [] ls = refl
draws_lines-append g w (k ∷ ks) ls = draws_lines-append g (draws_line g w k) ks ls

pub form_drawn-empty : (g : Setting) (x y : ℕ) (page : List ℕ) → form_drawn g x y [] page ≡ page
unfolding form_drawn lines_of draws_lines
form_drawn-empty g x y page = refl

draws-none : (l : List ℕ) → item_in l ≡ None → (g : Setting) (w : Drawing) → draws_line g w l ≡ w
unfolding draws_line
draws-none l e g w = rw e

draws-step : (g : Setting) (w : Drawing) (a : List ℕ) → draws_lines g (draws_line g w (line_in a)) (lines_of (behind a)).whole ≡ draws_lines g w (lines_of a).whole
unfolding draws_lines
draws-step g w a = fold_step (draws_lines g) (draws_line g) (λ s l ls. refl) (λ s l e. draws-none l e g s) w a

-- ---- a line more, and from start to end

as-stored : (g : Setting) (w : Drawing) (l : List ℕ) (s : Option Item) → draws_stored g w l (Some (item_or w.carried.origin s)) ≡ draws_stored g w l s
unfolding draws_item declares
as-stored g w l (Some it) = refl
as-stored g w l None = refl

module _ (g : Setting) (p at left p' at' left' : ℕ) (line page page' : List ℕ) (c c' : Carried) (it : Item) where
  abbrev b : List ℕ
  b = bytes_from g.store g.links p at left

  line-drawn : it ≡ item_or c.origin (item_in line) → page' ≡ draws_item g c.declared c.origin.x c.origin.y line it page → c' ≡ carries c it
      → drawing c' page' ≡ draws_line g (drawing c page) line
  unfolding draws_line
  line-drawn ei ep ec =
      (λ i. drawing (ec i) (ep i)) ∙ ap (λ (k : Item). draws_stored g (drawing c page) line (Some k)) ei ∙ as-stored g (drawing c page) line (item_in line)

  pub run-next : line ≡ line_in b → bytes_from g.store g.links p' at' left' ≡ behind b
      → it ≡ item_or c.origin (item_in line) → page' ≡ draws_item g c.declared c.origin.x c.origin.y line it page → c' ≡ carries c it
      → draws_lines g (drawing c' page') (lines_of (bytes_from g.store g.links p' at' left')).whole
      ≡ draws_lines g (drawing c page) (lines_of b).whole
  run-next here there ei ep ec =
      ap (λ (w : Drawing). draws_lines g w (lines_of (bytes_from g.store g.links p' at' left')).whole) (line-drawn ei ep ec)
      ∙ rw (there, here) (draws-step g (drawing c page) b)

module _ (g : Setting) (p at : ℕ) where
  pub run_end : (left : ℕ) (c : Carried) (page : List ℕ) → left ≤ 0
      → drawing c page ≡ draws_lines g (drawing c page) (lines_of (bytes_from g.store g.links p at left)).whole
  unfolding bytes_from lines_of draws_lines
  run_end zero c page h = refl
  run_end (suc left) c page h = absurd (omega arith)
