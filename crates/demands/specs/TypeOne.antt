-- Paper 02, §9: what a line that is read as B of type 1 draws, written with given symbols.
-- Assumes nothing.
use Rattle.std.specs.Prelude.{ℕ, ◌+◌, ◌*◌, List, map, length}
use Rattle.code128.specs.Code128.{elements128}
use Rattle.lined.specs.ByWidths.{drawn_as}
use Rattle.grammar.specs.declared.Bars.{Bars}
use Rattle.declarations.specs.Declarations.{outside_forms}
use Rattle.session.specs.declared.Session.{Session}
use Rattle.lent.specs.Lent.{World}
use Rattle.item_drawing.specs.Draw.{Setting, setting, shown}
use Rattle.form_drawing.specs.Draw.{Drawing, drawing}

-- the bars of the symbols v, their check symbol and the stop, from the origin x, y, and under them what the line says of the data
abbrev pub with_symbols : Setting → ℕ → ℕ → Bars → List ℕ → List ℕ → List ℕ → List ℕ
with_symbols g x y b text v page =
    drawn_as g.width g.length (x + b.x) (y + b.y) b.r b.g b.under g.font text page ((11 * length v + 24) * b.e) (map (λ w. w * b.e) (elements128 v))

-- on a label under way
abbrev pub with_symbols_on : Setting → Bars → List ℕ → List ℕ → Drawing → Drawing
with_symbols_on g b text v t = drawing t.carried (with_symbols g t.carried.origin.x t.carried.origin.y b text v t.page)

-- where a command draws, and what data shows there: "Outside recording, data elements find nothing declared"
abbrev pub on_background : Session → World → List ℕ → Setting
on_background s w font = setting font w.store w.links w.directory w.values s.counters s.clock s.width s.length

abbrev pub shown_there : Session → World → List ℕ → List ℕ → ℕ → List ℕ
shown_there s w font line at = shown (on_background s w font) (outside_forms s.formats) line at
