use mathlib.Core.Path.{ap, ◌∙◌}
use Prim.Native.Nat.{ℕ}
use Rattle.dots.specs.Dots.{drawn, cut, box}
use Rattle.item_drawing.specs.Draw.{far}
use Rattle.item_drawing.proofs.draw_box.Goals as goal

pub returns : goal.returns
returns c = let a = c.args in let f = c.far-x0.ensures in let e = c.far-y0.ensures in c.ink_box.ensures ∙ (λ i. drawn a.r.ink (cut a.size.width a.size.length (box (f i) (e i) ((c.far.ensures ∙ ap (λ (n : ℕ). far n a.r.c) f) i) ((c.far-2.ensures ∙ ap (λ (n : ℕ). far n a.r.d) e) i))) a.page.now)
