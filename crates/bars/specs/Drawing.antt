-- Paper 01, `Bx,y,r,t,e,f,g,N,data`: from the widths of the elements to dots on the page.
-- Assumes nothing.
use Rattle.std.specs.Prelude.{ℕ, ◌+◌, ◌*◌, Bool, true, false, not, cond, ◌&&◌, ◌||◌, List, [], ◌∷◌, map, ltb, eqb}
use Rattle.kinds.specs.declared.Kind.{Kind}
use Rattle.kinds.specs.declared.Kind.TheVariants.{Shown, Code39, Interleaved, Ean13, Code128}
use Rattle.kinds.specs.Bytes.{between}
use Rattle.kinds.specs.Fit.{fit}
use Rattle.dots.specs.declared.Ink.TheVariants.{Black}
use Rattle.dots.specs.Dots.{within, drawn, cut}
use Rattle.figures.specs.Figures.{placed}
use Rattle.code128.specs.Widths.{sum}
use Rattle.symbols.specs.Elements.{elements}

-- "narrow e 1..6; wide f 2..10 and above e, else 7; height g 24..1000"
unfoldable pub in_limits : ℕ → ℕ → ℕ → Bool
in_limits e f g = (between 1 6 e && between 2 10 f) && (ltb e f && between 24 1000 g)

-- an element in dots: narrow e and wide f; "E30 and 1 use modules of e, not f"
unfoldable pub dots_of : Kind → ℕ → ℕ → ℕ → ℕ
dots_of Shown e f w = 0
dots_of Code39 e f w = cond (eqb w 2) f e
dots_of Interleaved e f w = cond (eqb w 2) f e
dots_of Ean13 e f w = w * e
dots_of Code128 e f w = w * e

-- the elements' widths in dots; element k is a bar where k is even, else a space
unfoldable pub widths : Kind → ℕ → ℕ → List ℕ → List ℕ
widths kind e f s = map (dots_of kind e f) (elements kind s)

-- whether dot u is in a bar, of elements from dot `at` on, the first of which is a bar or not
unfoldable pub in_bar : Bool → ℕ → List ℕ → ℕ → Bool
in_bar bar at [] u = false
in_bar bar at (w ∷ ws) u = (bar && within at (at + w) u) || in_bar (not bar) (at + w) ws u

-- the figure in its box: bars over the whole height, no quiet zones
unfoldable pub bars : List ℕ → ℕ → ℕ → Bool
bars ws u v = in_bar true 0 ws u

-- "Spaces leave dots as they are"; with numbers out of their limits, or data that are unfit for the type, nothing is drawn
unfoldable pub bars_drawn : ℕ → ℕ → ℕ → ℕ → ℕ → Kind → ℕ → ℕ → ℕ → List ℕ → List ℕ → List ℕ
bars_drawn width length x y r kind e f g s page =
    let ws = widths kind e f s in
    cond (in_limits e f g && fit kind s) (drawn Black (cut width length (placed r (sum ws) g x y (bars ws))) page) page
