-- Two figures, one in the upper part of a box and one in the lower: each drawn in its margins, they are the one box drawn.
-- Assumes nothing.
use mathlib.Core.Path.{◌≡◌, refl, sym, ap, ◌∙◌}
use mathlib.Core.Bool.{Bool, true, ◌||◌}
use mathlib.Core.List.{List}
use Prim.Native.Nat.{ℕ, ◌+◌, ◌-◌, ◌≤◌, max}
use native.Mathlib.Omega.{arith}
use Rattle.dots.specs.declared.Ink.TheVariants.{Black}
use Rattle.dots.specs.Dots.{drawn, cut}
use Rattle.dots.proofs.Shapes.{then-black, cut-ext}
use Rattle.figures.specs.Figures.{placed}
use Rattle.figures.proofs.Placed.{placed-or}
use Rattle.kinds.specs.declared.Kind.{Kind}
use Rattle.kinds.specs.declared.Place.{Place}
use Rattle.kinds.specs.declared.Place.TheVariants.{Left, Centre, Right}
use Rattle.kinds.specs.Fit.{fit}
use Rattle.font.specs.Rules.{cell_height}
use Rattle.code128.specs.Widths.{sum}
use Rattle.text.specs.Text.{down, glyphs}
use Rattle.bars.specs.Drawing.{in_limits, widths, bars}
use Rattle.lined.specs.declared.insets.Margins.{Margins}
use Rattle.lined.specs.Lined.{line_of, line_wide, left_of, part, lined, lined_drawn}
use Rattle.lined.specs.Insets.{inset, margins_of}

-- no part stands further to the right than its dots to spare
left-most : (place : Place) (spare : ℕ) → left_of place spare ≤ spare
left-most Left spare = omega arith
left-most Centre spare = omega arith
left-most Right spare = omega arith

-- a part with its margins is as wide as the box
whole-width : (place : Place) (wide w : ℕ) → w ≤ wide → left_of place (wide - w) + w + (wide - w - left_of place (wide - w)) ≡ wide
whole-width place wide w h = omega (arith, left-most place (wide - w))

pub stacked : (W L r x y : ℕ) (place : Place) (wide g high w v : ℕ) (upper lower : ℕ → ℕ → Bool) (p q t : List ℕ) → wide ≡ max w v
    → q ≡ drawn Black (cut W L (inset r (margins_of place (wide - w) 0 high) w g x y upper)) p
    → t ≡ drawn Black (cut W L (inset r (margins_of place (wide - v) g 0) v high x y lower)) q
    → t ≡ drawn Black (cut W L (placed r wide (g + high) x y (λ a b. part place wide 0 w g upper a b || part place wide g v high lower a b))) p
unfolding inset
stacked W L r x y place wide g high w v upper lower p q t e d f =
    let over = part place wide 0 w g upper in
    let below = part place wide g v high lower in
    let h : 0 + g + high ≡ g + high = omega arith in
    let k : g + high + 0 ≡ g + high = omega arith in
    then-black W L (placed r wide (g + high) x y over) (placed r wide (g + high) x y below) p q t
    (d ∙ (λ i. drawn Black (cut W L (placed r (whole-width place wide w (omega arith) i) (h i) x y over)) p))
    (f ∙ (λ i. drawn Black (cut W L (placed r (whole-width place wide v (omega arith) i) (k i) x y below)) q))
    ∙ cut-ext Black W L _ _ p (λ a b _ _ _ _. sym (placed-or r wide (g + high) x y over below a b))

-- bars and line, with the numbers that `draw_lined` computes
pub lined-drawn : (W L x y r : ℕ) (kind : Kind) (e f g : ℕ) (place : Place) (font s p q t : List ℕ) (upper lower wide high : ℕ) (over below : Margins)
    → in_limits e f g ≡ true → fit kind s ≡ true → upper ≡ sum (widths kind e f s) → lower ≡ line_wide font (line_of kind s) → wide ≡ max upper lower
    → high ≡ cell_height font → over ≡ margins_of place (wide - upper) 0 high → below ≡ margins_of place (wide - lower) g 0
    → q ≡ drawn Black (cut W L (inset r over (sum (widths kind e f s)) g x y (bars (widths kind e f s)))) p
    → t ≡ drawn Black (cut W L (inset r below (line_wide font (line_of kind s)) (down font 1) x y (glyphs font 1 1 (line_of kind s)))) q
    → t ≡ lined_drawn W L x y r kind e f g place font s p
unfolding lined_drawn lined
lined-drawn W L x y r kind e f g place font s p q t upper lower wide high over below limits fits eu el ew eh eo eb d f' =
    let ws = widths kind e f s in
    let text = line_of kind s in
    let all : wide ≡ max (sum ws) (line_wide font text) = ew ∙ (λ i. max (eu i) (el i)) in
    let rows : high ≡ down font 1 = omega arith in
    rw (limits, fits)
    (stacked W L r x y place (max (sum ws) (line_wide font text)) g (down font 1) (sum ws) (line_wide font text) (bars ws) (glyphs font 1 1 text) p q t refl
    (d ∙ ap (λ (m : Margins). drawn Black (cut W L (inset r m (sum ws) g x y (bars ws))) p) (eo ∙ (λ i. margins_of place (all i - eu i) 0 (rows i))))
    (f' ∙ ap (λ (m : Margins). drawn Black (cut W L (inset r m (line_wide font text) (down font 1) x y (glyphs font 1 1 text))) q)
    (eb ∙ (λ i. margins_of place (all i - el i) g 0))))
