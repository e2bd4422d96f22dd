use Rattle.font.proofs.Passes.{row-masked}
use Rattle.font.proofs.row_clean.Goals as goal

pub returns : goal.returns
returns c = let k = c in
    let a = k.args in
    row-masked a.font.now c.byte_at.result a.bytes a.mask a.at k.requires.0 k.requires.2 c.byte_at.ensures.0
