use native.Mathlib.Omega.{arith}
use Prim.Native.Nat.{◌+◌, ◌-◌, ◌*◌}
use Rattle.store_check.proofs.Deciding.{cell_out, tail-empty, tail-is}
use Rattle.store_check.proofs.tail_ok.Goals as goal

pub returns-then-kind_at-eq0 : goal.returns-then-kind_at-eq0
returns-then-kind_at-eq0 c = tail-empty c.args.store.now c.args.links.now c.args.directory.now c.args.i _ c.kind_at.ensures.0 c.if-kind_at-eq0.true

pub overflow_sub-o : goal.overflow_sub-o
overflow_sub-o c = omega (arith, c.needed_for.ensures)

pub overflow_mul-o : goal.overflow_mul-o
overflow_mul-o c = omega (arith, c.needed_for.ensures, c.size_at-s.ensures.1)

pub overflow_sub-o-2 : goal.overflow_sub-o-2
overflow_sub-o-2 c = omega (arith, c.needed_for.ensures)

pub returns-then-store-p : goal.returns-then-store-p
returns-then-store-p c = tail-is c.args.store.now c.args.links.now c.args.directory.now c.args.i _ c.kind_at.ensures.0 _ _ _ _ c.if-kind_at-eq0.false c.size_at-s.ensures.0 c.needed_for.ensures c.last_at-p.ensures
    (cell_out (256 - (c.size_at-s.result - 256 * (c.needed_for.result - 1))) c.args.store.now (c.last_at-p.result * 256 + (c.size_at-s.result - 256 * (c.needed_for.result - 1))) (omega arith))

pub overflow_add-p : goal.overflow_add-p
overflow_add-p c = omega (arith, c.needed_for.ensures)

pub overflow_sub-o-3 : goal.overflow_sub-o-3
overflow_sub-o-3 c = omega (arith, c.needed_for.ensures)

pub returns : goal.returns
returns c = tail-is c.args.store.now c.args.links.now c.args.directory.now c.args.i _ c.kind_at.ensures.0 _ _ _ _ c.if-kind_at-eq0.false c.size_at-s.ensures.0 c.needed_for.ensures c.last_at-p.ensures c.zero_from.ensures
