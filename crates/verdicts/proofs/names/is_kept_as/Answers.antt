use Rattle.verdicts.proofs.Naming.{as_dropped, as-other, as-named}
use Rattle.verdicts.proofs.names.is_kept_as.Goals as goal

pub returns-then-byte-ne-KEPT : goal.returns-then-byte-ne-KEPT
returns-then-byte-ne-KEPT c = let a = c.args in
    as_dropped a.directory.now a.verdicts.now _ _ a.j _ c.byte.ensures c.if-byte-ne-KEPT.true

pub returns-then-not-is_of_kind : goal.returns-then-not-is_of_kind
returns-then-not-is_of_kind c = let o = c in let a = o.args in
    as-other a.directory.now a.verdicts.now _ _ a.j _ o.byte.ensures _ _ o.if-byte-ne-KEPT.false c.kind_at-k.ensures.0
    c.is_of_kind.ensures (c.if-not-is_of_kind.true)

pub returns : goal.returns
returns c = let k = c in let o = k in let a = o.args in
    as-named a.directory.now a.verdicts.now _ _ a.j _ o.byte.ensures _ _ o.if-byte-ne-KEPT.false k.kind_at-k.ensures.0
    c.is_of_kind.ensures _ (c.if-not-is_of_kind.false) c.is_named.ensures
