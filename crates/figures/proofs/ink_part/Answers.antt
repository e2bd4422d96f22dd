use native.Mathlib.Omega.{arith}
use Rattle.figures.proofs.Placed.{part-upright, part-once, part-twice, part-thrice}
use Rattle.figures.proofs.ink_part.Goals as goal

pub returns-in-0 : goal.returns-in-0
returns-in-0 c =
    part-upright _ _ _ c.args.spot.corner.r _ _ c.args.spot.wide c.args.spot.high c.args.part.x0 c.args.part.y0 c.args.part.x1 c.args.part.y1 _ _ _ _ _ _ _ _
    c.least-u1.ensures c.least-v1.ensures c.less-left.ensures c.less-right.ensures c.less-top.ensures c.less-bottom.ensures
    (omega arith) c.ink_from.ensures

pub returns-in-1 : goal.returns-in-1
returns-in-1 c =
    part-once _ _ _ c.args.spot.corner.r _ _ c.args.spot.wide c.args.spot.high c.args.part.x0 c.args.part.y0 c.args.part.x1 c.args.part.y1 _ _ _ _ _ _ _ _
    c.least-u1.ensures c.least-v1.ensures c.less-left.ensures c.less-right.ensures c.less-top.ensures c.less-bottom.ensures
    (omega arith) c.ink_from-in-1.ensures

pub returns-in-2 : goal.returns-in-2
returns-in-2 c =
    part-twice _ _ _ c.args.spot.corner.r _ _ c.args.spot.wide c.args.spot.high c.args.part.x0 c.args.part.y0 c.args.part.x1 c.args.part.y1 _ _ _ _ _ _ _ _
    c.least-u1.ensures c.least-v1.ensures c.less-left.ensures c.less-right.ensures c.less-top.ensures c.less-bottom.ensures
    (omega arith) c.ink_from-in-2.ensures

pub returns-in_default : goal.returns-in_default
returns-in_default c =
    part-thrice _ _ _ c.args.spot.corner.r _ _ c.args.spot.wide c.args.spot.high c.args.part.x0 c.args.part.y0 c.args.part.x1 c.args.part.y1 _ _ _ _ _ _ _ _
    c.least-u1.ensures c.least-v1.ensures c.less-left.ensures c.less-right.ensures c.less-top.ensures c.less-bottom.ensures
    (omega arith) c.ink_from-in_default.ensures
