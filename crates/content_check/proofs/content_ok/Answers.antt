use Rattle.content_check.proofs.Entries.{content-picture, content-rest}
use Rattle.content_check.proofs.content_ok.Goals as goal

pub returns-then-is_of_kind : goal.returns-then-is_of_kind
returns-then-is_of_kind c = let l = c in let o = l in
    content-picture _ _ _ _ _ o.kind_at-k.ensures.0 _ _ o.is_of_kind.ensures l.if-is_of_kind.true l.picture_legal.ensures

pub returns : goal.returns
returns c = content-rest _ _ _ _ _ c.kind_at-k.ensures.0 _ _ c.is_of_kind.ensures c.if-is_of_kind.false
    c.form_sound.ensures
