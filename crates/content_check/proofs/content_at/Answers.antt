use Rattle.content_check.proofs.Entries.{content-picture, content-rest}
use Rattle.content_check.proofs.content_at.Goals as goal

pub returns-then-is_of_kind : goal.returns-then-is_of_kind
returns-then-is_of_kind c = content-picture _ _ _ _ _ c.kind_at-kind.ensures.0 _ _ c.is_of_kind.ensures c.if-is_of_kind.true
    c.picture_at.ensures

pub returns : goal.returns
returns c = content-rest _ _ _ _ _ c.kind_at-kind.ensures.0 _ _ c.is_of_kind.ensures c.if-is_of_kind.false
    c.form_sound.ensures
