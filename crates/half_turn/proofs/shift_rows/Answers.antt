use native.Mathlib.Omega.{arith}
use Rattle.half_turn.proofs.Turned.{shifted_none, shifted_step, shifted-done}
use Rattle.half_turn.proofs.shift_rows.Goals as goal

pub returns-then-s-eq0 : goal.returns-then-s-eq0
returns-then-s-eq0 c = let s = c in let a = s.args in
    shifted_none a.s a.page.now (λ k. omega (arith, s.type_inv.page k)) c.if-s-eq0.true

pub loop-i-preserved : goal.loop-i-preserved
loop-i-preserved c = let w = c in let l = w in let a = l.args in
    shifted_step a.s a.page.now l.loop-i.page w.shift_byte.new.page l.loop-i.i l.loop-i.invariant
    w.loop-i-test.true w.shift_byte.ensures

pub returns : goal.returns
returns c = let a = c.args in
    shifted-done a.s a.page.now c.loop-i.page c.loop-i.i c.loop-i.invariant c.loop-i-test.false
