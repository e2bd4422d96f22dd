use Rattle.face.proofs.Called.{clock-wrong, clock-done}
use Rattle.face.proofs.station_clock.Goals as goal

pub returns-then-session-ne-IMAGE : goal.returns-then-session-ne-IMAGE
returns-then-session-ne-IMAGE c = clock-wrong _ _ _ c.if-session-ne-IMAGE.true c.number.ensures

pub shape_of-session : goal.shape_of-session
shape_of-session c = c.session-1.given

pub returns : goal.returns
returns c = let e = c in let p = e in
    clock-done _ _ _ _ _ _ p.if-session-ne-IMAGE.false p.decode.ensures p.pass-o.ensures e.encode.ensures c.number-2.ensures
