use mathlib.Core.Path.{◌∙◌}
use Rattle.item_drawing.specs.Draw.{setting}
use Rattle.form_lines.proofs.Walking.{line_read, walk-less}
use Rattle.form_drawing.proofs.Running.{run-next}
use Rattle.std.proofs.Common.{rules}
use Rattle.form_drawing.proofs.draw_next.Goals as goal

pub returns : goal.returns
returns c = let a = c.args in
    let n = c.next_line-next in
    let l = c.front-line.ensures ∙ line_read _ _ _ _ _ _ n.ensures.0 n.ensures.1.0 (search rules) in
    (run-next (setting a.s.font.now a.s.store.now a.s.links.now a.s.directory.now a.s.values.now a.s.counters a.s.clock a.s.size.width a.s.size.length) _ _ _ _ _ _ _ _ _ _ _ _ l n.ensures.1.1 c.line_item-item.ensures c.draw_item.ensures c.carry.ensures, walk-less _ _ _ _ _ _ _ _ c.requires n.ensures.1.1)
