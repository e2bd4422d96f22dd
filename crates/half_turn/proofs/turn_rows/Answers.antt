use Prim.Native.Nat.{◌-◌, ◌*◌}
use native.Mathlib.Omega.{arith}
use Rattle.half_turn.proofs.Turned.{turned-next, turned-done}
use Rattle.half_turn.proofs.turn_rows.Goals as goal

pub loop-i-preserved : goal.loop-i-preserved
loop-i-preserved c = let l = c.loop-i in
    turned-next (c.args.n * 76) c.args.page.now l.page l.i c.mirror-a.result c.mirror-b.result
    l.invariant c.loop-i-test.true c.mirror-a.ensures c.mirror-b.ensures

pub returns : goal.returns
returns c = let p = c.args.page.now in let l = c.loop-i in
    turned-done c.args.n p l.page l.i (c.args.n * 76 - l.i) (λ k. omega (arith, c.slice_known-1.given k)) l.invariant (omega arith)
