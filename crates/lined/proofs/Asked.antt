-- Type 1 as paper 02 asks for it, with its line and without: the bars of §9's shortest writing, whatever way that was found, and §1's box about them.
-- Assumes nothing.
use mathlib.Core.Path.{◌≡◌, ap, ◌∙◌}
use mathlib.Core.Bool.{true}
use mathlib.Core.List.{List, map}
use Prim.Native.Nat.{ℕ, ◌+◌, ◌*◌}
use lib.ListN.{length}
use Rattle.kinds.specs.declared.Kind.TheVariants.{Code128}
use Rattle.kinds.specs.declared.Under.{Under}
use Rattle.kinds.specs.declared.Under.TheVariants.{Nothing, Line}
use Rattle.kinds.specs.Fit.{fit}
use Rattle.code128.specs.Widths.{sum}
use Rattle.code128.specs.Code128.{elements128}
use Rattle.shortest.specs.Writing.{Shortest}
use Rattle.bars.specs.Drawing.{in_limits, widths, bars_drawn}
use Rattle.bars.proofs.Totals.{widths-shortest, total-shortest}
use Rattle.lined.specs.Lined.{line_of, lined_drawn, bars_with}
use Rattle.lined.specs.ByWidths.{drawn_as}

module _
    (width long x y r e f g : ℕ) (font s v page : List ℕ) (limits : in_limits e f g ≡ true) (fits : fit Code128 s ≡ true) (shortest : Shortest s v) where
  -- with the shortest writing's widths for those of `widths`
  told : (under : Under) → drawn_as width long x y r g under font s page (sum (widths Code128 e f s)) (widths Code128 e f s)
      ≡ drawn_as width long x y r g under font s page ((11 * length v + 24) * e) (map (λ w. w * e) (elements128 v))
  told under =
      ap (λ n. drawn_as width long x y r g under font s page n (widths Code128 e f s)) (total-shortest e f s v fits shortest)
      ∙ ap (drawn_as width long x y r g under font s page ((11 * length v + 24) * e)) (widths-shortest e f s v fits shortest)

  pub with-shortest : (under : Under) → bars_with width long x y r Code128 e f g under font s page
      ≡ drawn_as width long x y r g under font s page ((11 * length v + 24) * e) (map (λ w. w * e) (elements128 v))
  unfolding bars_with bars_drawn lined_drawn line_of
  with-shortest Nothing = rw (limits, fits) (told Nothing)
  with-shortest (Line place) = rw (limits, fits) (told (Line place))
