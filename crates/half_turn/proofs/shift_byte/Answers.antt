use mathlib.Core.Path.{ap}
use lib.ListN.{set}
use Rattle.half_turn.proofs.Turned.{shifted-byte}
use Rattle.half_turn.proofs.shift_byte.Goals as goal

pub returns : goal.returns
returns c = let w = c in
    let a = w.args in
    ap (set a.page.now a.i)
    (shifted-byte a.page.now a.i a.s w.byte_of_row-a.result w.byte_of_row-b.result c.between.result
    w.byte_of_row-a.ensures w.byte_of_row-b.ensures c.between.ensures)
