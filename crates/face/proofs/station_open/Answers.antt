use Rattle.face.proofs.Called.{open-wrong, open_done}
use Rattle.face.proofs.station_open.Goals as goal

pub returns-then-session-ne-IMAGE : goal.returns-then-session-ne-IMAGE
returns-then-session-ne-IMAGE c = open-wrong _ _ _ _ c.if-session-ne-IMAGE.true c.number.ensures

pub shape_of-session : goal.shape_of-session
shape_of-session c = c.session-1.given

pub shape_of-page : goal.shape_of-page
shape_of-page c = c.page-1.given

pub shape_of-background : goal.shape_of-background
shape_of-background c = c.background-1.given

pub shape_of-store : goal.shape_of-store
shape_of-store c = c.store-1.given

pub shape_of-links : goal.shape_of-links
shape_of-links c = c.links-1.given

pub shape_of-directory : goal.shape_of-directory
shape_of-directory c = c.directory-1.given

pub shape_of-values : goal.shape_of-values
shape_of-values c = c.values-1.given

pub returns : goal.returns
returns c = open_done _ _ _ _ _ _ _ _ c.if-session-ne-IMAGE.false c.open-o.ensures c.encode.ensures c.number-2.ensures
