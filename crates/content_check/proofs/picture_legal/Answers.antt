use Rattle.content_check.proofs.Entries.{picture-long, picture-whole}
use Rattle.content_check.proofs.picture_legal.Goals as goal

pub returns-then-place-gt-MOST_PICTURE : goal.returns-then-place-gt-MOST_PICTURE
returns-then-place-gt-MOST_PICTURE c = picture-long _ _ _ _ _ c.reader-place.ensures c.if-place-gt-MOST_PICTURE.true

pub returns : goal.returns
returns c = let o = c in let r = o in
    picture-whole _ _ _ _ _ r.reader-place.ensures _ _ _ _ _ r.requires o.if-place-gt-MOST_PICTURE.false
    o.copy_out-n.ensures.copied o.copy_out-n.ensures.length c.front.ensures c.is_legal.ensures
