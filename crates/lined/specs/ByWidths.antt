-- Bars with what stands under them, told by the widths of the bars and not by data: for theorems on how data is written.
-- Assumes nothing.
use Rattle.std.specs.Prelude.{ℕ, ◌+◌, max, List}
use Rattle.dots.specs.declared.Ink.TheVariants.{Black}
use Rattle.dots.specs.Dots.{drawn, cut}
use Rattle.figures.specs.Figures.{placed}
use Rattle.kinds.specs.declared.Under.{Under}
use Rattle.kinds.specs.declared.Under.TheVariants.{Nothing, Line}
use Rattle.text.specs.Text.{down}
use Rattle.bars.specs.Drawing.{bars}
use Rattle.lined.specs.Lined.{line_wide, lined}

-- what is drawn with bars of these widths, n dots together: `N`, the bars alone; `B`, the text under them, in one box as wide as the wider of the two
abbrev pub drawn_as : ℕ → ℕ → ℕ → ℕ → ℕ → ℕ → Under → List ℕ → List ℕ → List ℕ → ℕ → List ℕ → List ℕ
drawn_as width long x y r g Nothing font text page n ws = drawn Black (cut width long (placed r n g x y (bars ws))) page
drawn_as width long x y r g (Line place) font text page n ws =
    let wide = max n (line_wide font text) in drawn Black (cut width long (placed r wide (g + down font 1) x y (lined place wide g ws font text))) page
