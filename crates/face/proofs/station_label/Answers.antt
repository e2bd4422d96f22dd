use Rattle.face.proofs.Called.{label-wrong, label-done}
use Rattle.face.proofs.station_label.Goals as goal

pub returns-then-session-ne-IMAGE : goal.returns-then-session-ne-IMAGE
returns-then-session-ne-IMAGE c = label-wrong _ _ _ _ _ c.if-session-ne-IMAGE.true c.number.ensures

pub shape_of-session : goal.shape_of-session
shape_of-session c = c.session-1.given

pub shape_of-page : goal.shape_of-page
shape_of-page c = c.page-1.given

pub returns : goal.returns
returns c = label-done _ _ _ _ _ _ _ _ _ c.if-session-ne-IMAGE.false c.decode-before.ensures c.label-o.ensures c.encode.ensures c.number-2.ensures
