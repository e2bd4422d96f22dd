use mathlib.Core.Path.{sym, ap, ◌∙◌}
use Prim.Native.Nat.{ℕ, ◌-◌, min}
use lib.ListN.{length}
use Rattle.contents.specs.Content.{content_of}
use native.Mathlib.Omega.{arith}
use Rattle.contents.proofs.Reading.{copying-start, copying-step, copying-ran, copying-long, copying-done, length-content, place_inside}
use Rattle.contents.proofs.copy_out.Goals as goal

pub loop-k-init : goal.loop-k-init
loop-k-init c = (copying-start _ _ _ _ _ _ c.extent_at.ensures c.least-n.ensures _ c.first_at-p.ensures.0, omega arith)

pub copy_run-r-requires : goal.copy_run-r-requires
copy_run-r-requires c = omega (arith, copying-long _ _ _ _ _ _ c.extent_at.ensures c.least-n.ensures _ _ _ _ c.loop-k.invariant.0, c.least-n.ensures)

pub overflow_add-at : goal.overflow_add-at
overflow_add-at c = omega (arith, c.copy_run-r.ensures.1, c.loop-k.invariant.1)

pub bounds-out-k : goal.bounds-out-k
bounds-out-k c = omega (arith, copying-long _ _ _ _ _ _ c.extent_at.ensures c.least-n.ensures _ _ _ _ (copying-ran _ _ _ _ _ _ c.extent_at.ensures c.least-n.ensures _ _ _ _ _ _ c.loop-k-test.true c.copy_run-r.ensures c.loop-k.invariant.0), c.loop-k-test.true, c.copy_run-r.ensures.0, c.least-n.ensures)

pub loop-k-preserved : goal.loop-k-preserved
loop-k-preserved c = (copying-step _ _ _ _ _ _ c.extent_at.ensures c.least-n.ensures _ _ _ _ _ _ _ (omega (arith, c.loop-k-test.true, c.copy_run-r.ensures.0)) (copying-ran _ _ _ _ _ _ c.extent_at.ensures c.least-n.ensures _ _ _ _ _ _ c.loop-k-test.true c.copy_run-r.ensures c.loop-k.invariant.0) c.byte_at.ensures c.portion_after-p.ensures c.place_after-at.ensures, place_inside _ _ c.place_after-at.ensures)

pub shape_of-out : goal.shape_of-out
shape_of-out c = copying-long _ _ _ _ _ _ c.extent_at.ensures c.least-n.ensures _ _ _ _ c.loop-k.invariant.0

pub returns-clause-copied : goal.returns-clause-copied
unfolding content_of
returns-clause-copied c = copying-done _ _ _ _ _ _ c.extent_at.ensures c.least-n.ensures _ _ _ _ c.loop-k-test.false c.loop-k.invariant.0

pub returns-clause-length : goal.returns-clause-length
unfolding content_of
returns-clause-length c = let a = c.args in
    c.least-n.ensures ∙ ap (λ (m : ℕ). min m (length a.out.now))
    (c.extent_at.ensures ∙ sym (length-content a.store.now a.links.now a.directory.now a.i))
