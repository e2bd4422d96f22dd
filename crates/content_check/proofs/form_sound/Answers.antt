use Rattle.content_check.proofs.Entries.{form-is, form-none}
use Rattle.content_check.proofs.form_sound.Goals as goal

pub returns-then-is_of_kind : goal.returns-then-is_of_kind
returns-then-is_of_kind c = form-is _ _ _ _ _ c.kind_at.ensures.0 _ _ c.is_of_kind.ensures c.if-is_of_kind.true
    c.form_ok.ensures

pub returns : goal.returns
returns c = let a = c.args in
    form-none a.store.now a.links.now _ _ _ c.kind_at.ensures.0 _ c.is_of_kind.ensures c.if-is_of_kind.false
