use mathlib.Core.Path.{ap, ◌∙◌}
use Prim.Native.Nat.{ℕ}
use lib.ListN.{replicate, length-replicate}
use Rattle.contents.specs.Content.{content}
use Rattle.dots.specs.declared.Ink.TheVariants.{Black}
use Rattle.dots.specs.Dots.{drawn, cut}
use Rattle.picture.specs.Shape.{pictured}
use Rattle.item_drawing.proofs.Showing.{pictured-front}
use Rattle.item_drawing.proofs.draw_content.Goals as goal

pub returns : goal.returns
returns c = let a = c.args in let k = c.copy_out-n.ensures in c.draw.ensures ∙ (λ i. drawn Black (cut a.s.size.width a.s.size.length ((ap pictured c.front.ensures ∙ pictured-front c.copy_out-n.result (content a.s.store.now a.s.links.now a.s.directory.now a.i) (replicate {A = ℕ} 32769 0) _ (length-replicate {A = ℕ} 32769 0) k.copied k.length) i a.x a.y)) a.page.now)
