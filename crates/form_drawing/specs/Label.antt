-- Serves the code alone: a form under way on a label. `draw_form` is proved to draw by `form_drawn`.
-- Assumes nothing.
use Rattle.std.specs.Prelude.{ℕ, List, Option, Some, None}
use Rattle.contents.specs.Content.{ahead}
use Rattle.content_lines.specs.Lines.{lines_of}
use Rattle.grammar.specs.declared.Origin.{Origin as Place}
use Rattle.grammar.specs.declared.Item.{Item}
use Rattle.grammar.specs.declared.Item.TheVariants.{Origin}
use Rattle.item_drawing.specs.Draw.{Setting}
use Rattle.form_drawing.specs.Draw.{Drawing, drawing, draws_lines}
use Rattle.form_drawing.specs.declared.Run.{Run}

-- what a line is drawn as: with nothing in it, as an R that names the origin again
abbrev pub item_or : Place → Option Item → Item
item_or o (Some it) = it
item_or o None = Origin o

-- the label when the rest of a form is drawn
abbrev pub run_drawn : Setting → Run → List ℕ → Drawing
run_drawn g w page = draws_lines g (drawing w.carried page) (lines_of (ahead g.store g.links w.place)).whole
