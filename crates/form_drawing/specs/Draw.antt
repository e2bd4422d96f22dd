-- What a form draws on a label.
-- Assumes nothing.
use Rattle.std.specs.Prelude.{ℕ, List, [], ◌∷◌, Option, Some, None}
use Rattle.grammar.specs.declared.Item.{Item}
use Rattle.content_lines.specs.Lines.{lines_of}
use Rattle.kept_line.specs.Held.{item_in}
use Rattle.carried.specs.declared.Carried.{Carried}
use Rattle.carried.specs.Carried.{starts, carries}
use Rattle.item_drawing.specs.Draw.{Setting, draws_item}

-- ---- a label under way: what the lines so far leave, and the page

pub record Drawing : Type 0 where
  pub carried : Carried
  pub page : List ℕ

abbrev pub drawing : Carried → List ℕ → Drawing
drawing c p = record { carried = c; page = p }

-- a line draws its item, and leaves what is declared and the origin to the next; one that holds nothing leaves all as it was
abbrev pub draws_stored : Setting → Drawing → List ℕ → Option Item → Drawing
draws_stored g w line (Some it) =
    drawing (carries w.carried it) (draws_item g w.carried.declared w.carried.origin.x w.carried.origin.y line it w.page)
draws_stored g w line None = w

unfoldable pub draws_line : Setting → Drawing → List ℕ → Drawing
draws_line g w line = draws_stored g w line (item_in line)

-- "runs the active form": line after line
unfoldable pub draws_lines : Setting → Drawing → List (List ℕ) → Drawing
draws_lines g w [] = w
draws_lines g w (l ∷ ls) = draws_lines g (draws_line g w l) ls

-- what a form draws, from the session's origin
unfoldable pub form_drawn : Setting → ℕ → ℕ → List ℕ → List ℕ → List ℕ
form_drawn g x y bytes page = (draws_lines g (drawing (starts x y) page) (lines_of bytes).whole).page
