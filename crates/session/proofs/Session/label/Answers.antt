use Rattle.session.proofs.LabelMade.{label-made}
use Rattle.std.proofs.Common.{rules}
use Rattle.session.proofs.Session.label.Goals as goal

pub shape_of-page : goal.shape_of-page
shape_of-page c = let t = c in let d = t in
    search (rules, t.turn_page.auto, d.draw.auto, d.copy.auto)

pub returns : goal.returns
returns c = let t = c in let d = t in
    label-made _ _ _ _ _ _ _ _ _ _ d.copy.ensures d.draw.ensures t.turn_page.ensures
    c.active_declared-declared.ensures c.moved-moved.ensures c.counted.ensures
