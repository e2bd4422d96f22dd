use mathlib.Core.Path.{refl}
use mathlib.Core.Bool.{true, false}
use Rattle.erasing.proofs.Freeing.{erase-if}
use Rattle.erasing.proofs.erase_if.Goals as goal

pub returns-then-is_of_kind : goal.returns-then-is_of_kind
returns-then-is_of_kind c = erase-if _ _ _ c.kind_at.ensures.0 c.args.picture _ true _ c.is_of_kind.ensures c.if-is_of_kind.true c.drop_entry.ensures

pub returns-else-is_of_kind : goal.returns-else-is_of_kind
returns-else-is_of_kind c = erase-if _ _ _ c.kind_at.ensures.0 c.args.picture _ false _ c.is_of_kind.ensures c.if-is_of_kind.false refl
