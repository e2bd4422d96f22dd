use Rattle.face.proofs.Called.{fits-wrong, fits-done}
use Rattle.face.proofs.station_fits.Goals as goal

pub returns-then-session-ne-IMAGE : goal.returns-then-session-ne-IMAGE
returns-then-session-ne-IMAGE c = fits-wrong _ _ _ _ _ _ _ c.if-session-ne-IMAGE.true c.number.ensures

pub returns : goal.returns
returns c = fits-done _ _ _ _ _ _ _ _ _ c.if-session-ne-IMAGE.false c.decode-held.ensures c.fit_answer.ensures c.number-2.ensures
