use mathlib.Core.Path.{refl, ap, ◌∙◌}
use Rattle.item_drawing.specs.Draw.{setting}
use Rattle.form_drawing.specs.Draw.{Drawing, form_drawn}
use Rattle.form_drawing.proofs.Running.{run_end}
use Rattle.form_drawing.proofs.draw_form.Goals as goal

pub loop-w-init : goal.loop-w-init
loop-w-init c = (refl, rw c.start.ensures)

pub loop-w-smaller : goal.loop-w-smaller
loop-w-smaller c = c.draw_next-w.ensures.1

pub loop-w-preserved : goal.loop-w-preserved
loop-w-preserved c = (c.draw_next-w.auto.page ∙ c.loop-w.invariant.0, c.draw_next-w.ensures.0 ∙ c.loop-w.invariant.1)

pub shape_of-page : goal.shape_of-page
shape_of-page c = c.loop-w.invariant.0

pub returns : goal.returns
unfolding form_drawn
returns c = let a = c.args in ap (λ (w : Drawing). w.page) (run_end (setting a.s.font.now a.s.store.now a.s.links.now a.s.directory.now a.s.values.now a.s.counters a.s.clock a.s.size.width a.s.size.length) _ _ _ _ _ c.loop-w-test.false ∙ c.loop-w.invariant.1)
