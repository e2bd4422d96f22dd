-- Paper 02, §1, "The number under the bars": bars and a line of text under them, in one box.
-- Assumes nothing.
use Rattle.std.specs.Prelude.{ℕ, ◌+◌, ◌-◌, ◌*◌, ◌/◌, max, Bool, true, false, cond, ◌&&◌, ◌||◌, List, length}
use Rattle.dots.specs.declared.Ink.TheVariants.{Black}
use Rattle.dots.specs.Dots.{drawn, cut}
use Rattle.figures.specs.Figures.{standing, placed}
use Rattle.kinds.specs.declared.Kind.{Kind}
use Rattle.kinds.specs.declared.Kind.TheVariants.{Shown, Code39, Interleaved, Ean13, Code128}
use Rattle.kinds.specs.declared.Place.{Place}
use Rattle.kinds.specs.declared.Place.TheVariants.{Left, Centre, Right}
use Rattle.kinds.specs.declared.Under.{Under}
use Rattle.kinds.specs.declared.Under.TheVariants.{Nothing, Line}
use Rattle.kinds.specs.Fit.{fit}
use Rattle.code128.specs.Widths.{sum}
use Rattle.symbols.specs.Elements.{checked}
use Rattle.text.specs.Text.{along, down, glyphs}
use Rattle.bars.specs.Drawing.{in_limits, widths, bars, bars_drawn}

-- "with the EAN check digit": the types that have one
abbrev pub checks : Kind → Bool
checks Shown = false
checks Code39 = false
checks Interleaved = false
checks Ean13 = true
checks Code128 = false

-- "Under the bars stands the data": the bytes of the line
unfoldable pub line_of : Kind → List ℕ → List ℕ
line_of kind s = cond (checks kind) (checked s) s

-- "in the lent font at scale 1": the width of a line
abbrev pub line_wide : List ℕ → List ℕ → ℕ
line_wide font text = length text * along font 1

-- "an optional `,C` or `,R`; otherwise left. It places the narrower of line and bars, C with the smaller half left": the dots at the left of a part
-- that has some dots to spare in the box. The wider of the two has none
abbrev pub left_of : Place → ℕ → ℕ
left_of Left spare = 0
left_of Centre spare = spare / 2
left_of Right spare = spare

-- "It places the narrower of line and bars": a figure of w by h dots in a box of `wide` dots, from row v on
abbrev pub part : Place → ℕ → ℕ → ℕ → ℕ → (ℕ → ℕ → Bool) → ℕ → ℕ → Bool
part place wide v w h figure = standing w h (left_of place (wide - w)) v figure

-- "Under the bars": bars in the g upper rows of the box, glyphs in the rows of a cell below, no row between
unfoldable pub lined : Place → ℕ → ℕ → List ℕ → List ℕ → List ℕ → ℕ → ℕ → Bool
lined place wide g ws font text u v =
    part place wide 0 (sum ws) g (bars ws) u v || part place wide g (line_wide font text) (down font 1) (glyphs font 1 1 text) u v

-- "turned with the bars as one box. The box is as wide as the wider of the two." "Drawing is cut at width and length." Bars and the dots of glyphs are
-- set black, and all else stays. With numbers out of their limits, or data that are unfit for the type, nothing is drawn
unfoldable pub lined_drawn : ℕ → ℕ → ℕ → ℕ → ℕ → Kind → ℕ → ℕ → ℕ → Place → List ℕ → List ℕ → List ℕ → List ℕ
lined_drawn width length x y r kind e f g place font s page =
    let ws = widths kind e f s in
    let text = line_of kind s in
    let wide = max (sum ws) (line_wide font text) in
    cond (in_limits e f g && fit kind s) (drawn Black (cut width length (placed r wide (g + down font 1) x y (lined place wide g ws font text))) page) page

-- "B is to take `B` where 01 takes only `N`": bars with what stands under them. With `N` they are drawn as 01 has them
unfoldable pub bars_with : ℕ → ℕ → ℕ → ℕ → ℕ → Kind → ℕ → ℕ → ℕ → Under → List ℕ → List ℕ → List ℕ → List ℕ
bars_with width length x y r kind e f g Nothing font s page = bars_drawn width length x y r kind e f g s page
bars_with width length x y r kind e f g (Line place) font s page = lined_drawn width length x y r kind e f g place font s page
