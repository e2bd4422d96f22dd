use mathlib.Core.Path.{refl, ◌∙◌}
use native.Mathlib.Omega.{arith}
use Rattle.half_turn.specs.Turn.{turned_in}
use Rattle.half_turn.proofs.Turned.{turned-all}
use Rattle.half_turn.proofs.turn.Goals as goal

pub returns : goal.returns
returns c = let d = c in
    let f = d in
    let g = f in
    let b = g in
    let a = b.args in
    turned-all b.min-w.result b.min-l.result _ a.page.now g.turn_rows.new.page f.shift_rows.new.page d.ink_box.new.page
    (omega arith) (omega arith) refl g.turn_rows.ensures f.shift_rows.ensures d.ink_box.ensures
    ∙ (λ i. turned_in (b.min-w.ensures i) (b.min-l.ensures i) a.page.now)
