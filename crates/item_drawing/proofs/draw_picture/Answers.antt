use mathlib.Core.Path.{sym, ap, ◌∙◌}
use Prim.Native.Nat.{ℕ}
use mathlib.Core.List.{List}
use mathlib.Core.Bool.{true}
use Rattle.finding.specs.Find.{titled_at}
use Rattle.dots.specs.declared.Ink.TheVariants.{Black}
use Rattle.dots.specs.Dots.{drawn, cut}
use Rattle.picture.specs.Shape.{pictured}
use Rattle.item_drawing.specs.Draw.{bytes_at}
use Rattle.item_drawing.proofs.draw_picture.Goals as goal

pub returns-in-Some : goal.returns-in-Some
returns-in-Some c = let a = c.args in let e = ap (bytes_at a.s.store.now a.s.links.now a.s.directory.now) (sym (c.find-found.ensures ∙ ap (λ (n : List ℕ). titled_at a.s.directory.now true n) c.packed.ensures) ∙ c.in-Some.is) in c.draw_content.ensures ∙ (λ i. drawn Black (cut a.s.size.width a.s.size.length (pictured (sym e i) (c.far-x.ensures i) (c.far-y.ensures i))) a.page.now)

pub returns-in-None : goal.returns-in-None
returns-in-None c = let a = c.args in let e = ap (bytes_at a.s.store.now a.s.links.now a.s.directory.now) (sym (c.find-found.ensures ∙ ap (λ (n : List ℕ). titled_at a.s.directory.now true n) c.packed.ensures) ∙ c.in-None.is) in c.draw.ensures ∙ (λ i. drawn Black (cut a.s.size.width a.s.size.length (pictured ((c.front.ensures ∙ sym e) i) (c.far-x.ensures i) (c.far-y.ensures i))) a.page.now)
