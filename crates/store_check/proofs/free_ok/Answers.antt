use native.Mathlib.Omega.{arith}
use Prim.Native.Nat.{◌*◌}
use Rattle.cells.specs.Cell.{cell}
use Rattle.store_check.proofs.Deciding.{cell_out, free_other, free-is}
use Rattle.store_check.proofs.free_ok.Goals as goal

pub returns-then-link_at : goal.returns-then-link_at
returns-then-link_at c = free_other c.args.store.now c.args.links.now c.args.q _ c.link_at.ensures.0 c.if-link_at.true

pub returns-then-store-q : goal.returns-then-store-q
unfolding cell
returns-then-store-q c = free-is c.args.store.now c.args.links.now c.args.q _ c.link_at.ensures.0 _ c.if-link_at.false (cell_out 256 c.args.store.now (c.args.q * 256) (omega arith))

pub returns : goal.returns
unfolding cell
returns c = free-is c.args.store.now c.args.links.now c.args.q _ c.link_at.ensures.0 _ c.if-link_at.false c.zero_from.ensures
