use mathlib.Core.Path.{sym, ◌∙◌}
use Prim.Native.Nat.{◌+◌, ◌*◌}
use lib.ListN.{get_or-eq_default}
use native.Mathlib.Omega.{arith}
use Rattle.cells.proofs.Cells.{cell_at}
use Rattle.store.proofs.field.Goals as goal

pub returns-then-directory-i : goal.returns-then-directory-i
returns-then-directory-i c = (
  sym (cell_at 16 _ _ _ c.requires ∙ get_or-eq_default c.args.directory.now 0 (omega arith)),
  omega arith,
)

pub returns-then-directory-from : goal.returns-then-directory-from
returns-then-directory-from c = (
  sym (cell_at 16 _ _ _ c.requires ∙ get_or-eq_default c.args.directory.now 0 (omega arith)),
  omega arith,
)

pub returns : goal.returns
returns c = (
  sym (cell_at 16 _ _ _ c.requires),
  omega (arith, c.type_inv.directory (c.args.i * 16 + c.args.o)),
)
