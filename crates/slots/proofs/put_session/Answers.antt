use mathlib.Core.Path.{refl, ap, ◌∙◌}
use lib.ListN.{take}
use lib.Seq.{sets}
use Rattle.image.proofs.Inverse.{whole}
use Rattle.slots.proofs.put_session.Goals as goal

pub returns : goal.returns
returns c = let a = c.args in
    c.put.ensures ∙ ap (sets a.file.now a.at) (c.front.ensures ∙ ap (take a.held) (c.encode.ensures ∙ whole _ a.session refl))
