use Rattle.store.specs.Entry.{entry}
use Rattle.free_number.proofs.Calling.{called-some, called-none}
use Rattle.free_number.proofs.called_at.Goals as goal

pub returns-then-is_of_kind : goal.returns-then-is_of_kind
returns-then-is_of_kind c = called-some c.args.picture _ _ _ c.kind_at.ensures.0 c.is_of_kind.ensures _ c.if-is_of_kind.true c.many_at.ensures

pub returns : goal.returns
returns c = let a = c.args in
    called-none a.picture (entry a.directory.now a.i) _ _ c.kind_at.ensures.0 c.is_of_kind.ensures c.if-is_of_kind.false
