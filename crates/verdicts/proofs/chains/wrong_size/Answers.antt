use Rattle.store.specs.Entry.{entry}
use Rattle.verdicts.proofs.Walks.{size-other, size-form, size-picture}
use Rattle.verdicts.proofs.chains.wrong_size.Goals as goal

pub returns-then-n-needed_for : goal.returns-then-n-needed_for
returns-then-n-needed_for c = let a = c.args in
    size-other (entry a.directory.now a.i) _ _ _ c.size_at-s.ensures.0 c.needed_for.ensures c.if-n-needed_for.true

pub returns-then-kind_at-ne2 : goal.returns-then-kind_at-ne2
returns-then-kind_at-ne2 c = let o = c in let a = o.args in
    size-form (entry a.directory.now a.i) _ _ _ o.size_at-s.ensures.0 o.needed_for.ensures c.if-n-needed_for.false
    _ c.kind_at.ensures.0 c.if-kind_at-ne2.true

pub returns : goal.returns
returns c = let o = c in let a = o.args in
    size-picture (entry a.directory.now a.i) _ _ _ o.size_at-s.ensures.0 o.needed_for.ensures c.if-n-needed_for.false
    _ c.kind_at.ensures.0 c.if-kind_at-ne2.false
