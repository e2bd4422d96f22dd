use native.Mathlib.Omega.{arith}
use lib.ListN.{length}
use Rattle.pcx.specs.Rules.{decoded}
use Rattle.picture.proofs.Drawing.{drawing-start, drawing-room, drawing-step, drawing-done, fits-at}
use Rattle.picture.proofs.ink_runs.Goals as goal

pub loop-i-init : goal.loop-i-init
loop-i-init c = drawing-start _ _ _ (λ j. omega (arith, c.type_inv.page j))

pub overflow_add-end : goal.overflow_add-end
overflow_add-end c = let l = c.loop-i in let s = c in
    record { fits = omega (arith, drawing-room _ _ _ l.i l.n l.q _ l.page c.loop-i-test.true l.invariant c.times_of.ensures, s.requires.small) }

pub ink_run-requires : goal.ink_run-requires
ink_run-requires c = let l = c.loop-i in let s = c in (
  omega arith,
  fits-at s.args.p (length (decoded s.args.bytes.now)) _ s.args.page.now l.page s.requires
      (drawing-room _ _ _ l.i l.n l.q _ l.page c.loop-i-test.true l.invariant c.times_of.ensures) l.invariant.long,
)

pub loop-i-preserved : goal.loop-i-preserved
loop-i-preserved c = let w = c in
    let t = w in
    let l = t.loop-i in
    drawing-step _ _ _ l.i l.n l.q _ _ l.page _ t.loop-i-test.true l.invariant t.times_of.ensures c.next_of-n.ensures
    w.ink_run.ensures w.ink_run.auto.page

pub shape_of-page : goal.shape_of-page
shape_of-page c = c.loop-i.invariant.long

pub returns : goal.returns
returns c = let l = c.loop-i in drawing-done _ _ _ l.i l.n l.q l.page c.loop-i-test.false l.invariant
