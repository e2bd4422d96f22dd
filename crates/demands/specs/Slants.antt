-- Paper 02, §8: what a line that is read as LS, LSE or LSW draws.
-- Assumes nothing.
use Rattle.std.specs.Prelude.{ℕ, ◌+◌, Bool, List}
use Rattle.dots.specs.Dots.{drawn, cut}
use Rattle.slanted_lines.specs.Slanted.{near}
use Rattle.grammar.specs.declared.Slant.{Slant}
use Rattle.item_drawing.specs.Draw.{Setting}
use Rattle.carried.specs.Carried.{starts}
use Rattle.form_drawing.specs.Draw.{Drawing, drawing, draws_lines}

-- "R is added to both ends. A dot belongs to the line exactly when four times the square of its distance to the segment is at most c squared"
abbrev pub belongs : ℕ → ℕ → Slant → ℕ → ℕ → Bool
belongs x y l px py = near (x + l.a) (y + l.b) l.c (x + l.d) (y + l.e) px py

-- the page with its dots "black, inverting, white"; what lies outside width and length is cut
abbrev pub with_line : ℕ → ℕ → ℕ → ℕ → Slant → List ℕ → List ℕ
with_line width length x y l page = drawn l.ink (cut width length (belongs x y l)) page

-- the same line from its other end
abbrev pub from_other_end : Slant → Slant
from_other_end l = record { ink = l.ink; a = l.d; b = l.e; c = l.c; d = l.a; e = l.b }

-- a label under way: the first lines of its form are drawn on a page from the session's origin x, y
abbrev pub under_way : Setting → ℕ → ℕ → List ℕ → List (List ℕ) → Drawing
under_way g x y page before = draws_lines g (drawing (starts x y) page) before

-- and then a slanted line, from the origin that they leave
abbrev pub with_line_on : Setting → Slant → Drawing → Drawing
with_line_on g l t = drawing t.carried (with_line g.width g.length t.carried.origin.x t.carried.origin.y l t.page)
