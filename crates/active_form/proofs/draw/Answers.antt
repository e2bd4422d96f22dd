use Rattle.form_drawing.specs.ItemDrawingDraw.{setting}
use Rattle.active_form.proofs.ActiveForm.{active-drawn}
use Rattle.active_form.proofs.draw.Goals as goal

pub returns : goal.returns
returns c = let a = c.args in
    active-drawn (setting a.font.now a.store.now a.links.now a.directory.now a.values.now a.counters a.clock a.width a.length) _ _ _ _ _ _ c.reader.ensures c.draw_form.ensures
