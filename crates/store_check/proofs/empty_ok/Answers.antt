use native.Mathlib.Omega.{arith}
use Prim.Native.Nat.{◌*◌}
use Rattle.cells.specs.Cell.{cell}
use Rattle.store_check.proofs.Deciding.{cell_out, empty-other, empty-is}
use Rattle.store_check.proofs.empty_ok.Goals as goal

pub returns-then-kind_at-ne0 : goal.returns-then-kind_at-ne0
returns-then-kind_at-ne0 c = empty-other c.args.directory.now c.args.i _ c.kind_at.ensures.0 c.if-kind_at-ne0.true

pub returns-then-directory-i : goal.returns-then-directory-i
unfolding cell
returns-then-directory-i c = empty-is c.args.directory.now c.args.i _ c.kind_at.ensures.0 _ c.if-kind_at-ne0.false (cell_out 16 c.args.directory.now (c.args.i * 16) (omega arith))

pub returns : goal.returns
unfolding cell
returns c = empty-is c.args.directory.now c.args.i _ c.kind_at.ensures.0 _ c.if-kind_at-ne0.false c.zero_from.ensures
