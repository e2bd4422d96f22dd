use Prim.Native.Nat.{◌-◌}
use native.Mathlib.Nat.{add-zero}
use native.Mathlib.Omega.{arith}
use Rattle.writing.specs.Writing.{cased}
use Rattle.writing.proofs.Writes.{wrote_none, wrote-past, wrote-length, cased_next, cased-all}
use Rattle.writing.proofs.copy.Goals as goal

pub returns-then-out-at : goal.returns-then-out-at
returns-then-out-at c = wrote-past _ _ _ c.if-out-at.true

pub loop-j-init : goal.loop-j-init
unfolding cased
loop-j-init c = (omega arith, rw add-zero (wrote_none _ _ c.if-out-at.false))

pub bounds-out-at : goal.bounds-out-at
bounds-out-at c = let l = wrote-length c.loop-j.invariant.1 in omega arith

pub loop-j-preserved : goal.loop-j-preserved
loop-j-preserved c = let a = c.args in
    let l = c.loop-j in
    (omega arith, cased_next a.fold a.from.now _ _ a.at l.j _ l.invariant.1 (omega arith) (omega arith) c.case.ensures)

pub shape_of-out : goal.shape_of-out
shape_of-out c = wrote-length c.loop-j.invariant.1

pub returns : goal.returns
returns c = let a = c.args in
    let l = c.loop-j in
    cased-all a.fold a.from.now _ _ a.at l.j _ l.invariant.1 (omega arith) (λ k. omega arith)
