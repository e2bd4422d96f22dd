use mathlib.Core.Path.{◌≡◌}
use lib.ListN.{length}
use Rattle.contents.specs.Content.{ahead}
use Rattle.content_lines.specs.Lines.{lines_of}
use Rattle.carried.specs.Carried.{starts}
use Rattle.item_drawing.specs.Draw.{setting}
use Rattle.form_drawing.specs.Draw.{drawing, draws_lines}
use Rattle.form_drawing.specs.Label.{run_drawn}
use Rattle.form_drawing.proofs.draw_form.Given as goal

abbrev pub invariant-loop-w : goal.invariant-loop-w
invariant-loop-w l = (length l.page ≡ length l.initial.page) × (run_drawn (setting l.s.font.now l.s.store.now l.s.links.now l.s.directory.now l.s.values.now l.s.counters l.s.clock l.s.size.width l.s.size.length) l.w l.page ≡ draws_lines (setting l.s.font.now l.s.store.now l.s.links.now l.s.directory.now l.s.values.now l.s.counters l.s.clock l.s.size.width l.s.size.length) (drawing (starts l.fn.origin.x l.fn.origin.y) l.initial.page) (lines_of (ahead l.s.store.now l.s.links.now l.initial.w.place)).whole)

abbrev pub decreases-loop-w : goal.decreases-loop-w
decreases-loop-w l = l.w.place.left
