use mathlib.Core.Path.{refl, ◌∙◌}
use Prim.Native.Nat.{◌+◌, ◌*◌}
use Rattle.outside.proofs.WhiteOutside.{row_from}
use Rattle.outside.proofs.white_row.Goals as goal

pub returns : goal.returns
returns c = let f = c.first_outside in
    let k = c in
    let a = k.args in
    c.white_bytes.ensures
    ∙ row_from a.width a.length a.page.now a.y f.result (a.y * 76 + f.result) (a.y * 76 + 76) f.ensures.0 refl refl k.requires
