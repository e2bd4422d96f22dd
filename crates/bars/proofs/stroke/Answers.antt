use native.Mathlib.Omega.{arith}
use Rattle.bars.proofs.Stroking.{space-drawn, stroke-drawn}
use Rattle.bars.proofs.stroke.Goals as goal

pub returns-then-not-bar : goal.returns-then-not-bar
returns-then-not-bar c = let s = c.args.spot in
    space-drawn s.corner.size.width s.corner.size.length s.corner.r s.wide s.high s.corner.x s.corner.y c.args.at c.args.end c.args.bar c.args.page.now
    (λ i. omega (arith, c.type_inv.page i)) c.if-not-bar.true

pub returns : goal.returns
returns c = stroke-drawn _ _ c.args.spot.corner.r _ _ _ _ _ _ c.args.bar _ _ c.if-not-bar.false c.ink_part.ensures
