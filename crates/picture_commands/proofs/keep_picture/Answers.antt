use mathlib.Core.Path.{refl, ap}
use mathlib.Core.Bool.{not}
use Rattle.picture_commands.proofs.Keeping.{keep-in-use, keep-illegal, keep-full, keep-stored}
use Rattle.picture_commands.proofs.keep_picture.Goals as goal

pub shape_of-directory-then-is_some : goal.shape_of-directory-then-is_some
shape_of-directory-then-is_some c = refl

pub returns-then-is_some : goal.returns-then-is_some
returns-then-is_some c = let u = c in let x = u.args in
    keep-in-use x.session x.line.now x.more.now x.p _ _ _ _ u.packed-title.ensures u.find.ensures u.is_some.ensures
    _ c.if-is_some.true c.answered.ensures

pub shape_of-directory-then-not-is_legal : goal.shape_of-directory-then-not-is_legal
shape_of-directory-then-not-is_legal c = refl

pub shape_of-directory-then-not-is_taken : goal.shape_of-directory-then-not-is_taken
shape_of-directory-then-not-is_taken c = refl

pub shape_of-store : goal.shape_of-store
shape_of-store c = c.store-1.given

pub shape_of-links : goal.shape_of-links
shape_of-links c = c.links-1.given

pub shape_of-directory : goal.shape_of-directory
shape_of-directory c = c.directory-1.given

pub returns-then-not-is_legal : goal.returns-then-not-is_legal
returns-then-not-is_legal c = let l = c in let u = l in let x = u.args in
    keep-illegal x.session x.line.now x.more.now x.p _ _ _ _ u.packed-title.ensures u.find.ensures u.is_some.ensures
    l.if-is_some.false _ l.is_legal.ensures _ (ap not c.if-not-is_legal.true) c.answered-then-not-is_legal.ensures

pub returns-then-not-is_taken : goal.returns-then-not-is_taken
returns-then-not-is_taken c = let f = c in let l = f in let u = l in let x = u.args in
    keep-full x.session x.line.now x.more.now x.p _ _ _ _ u.packed-title.ensures u.find.ensures u.is_some.ensures
    l.if-is_some.false _ l.is_legal.ensures (ap not f.if-not-is_legal.false) _ _ f.full_answer-full.ensures c.is_taken.ensures
    _ (ap not c.if-not-is_taken.true) c.answered-then-not-is_taken.ensures

pub returns : goal.returns
returns c = let k = c in let t = k in
    let f = t in let l = f in let u = l in let x = u.args in
    keep-stored x.session x.line.now x.more.now x.p _ _ _ _ u.packed-title.ensures u.find.ensures u.is_some.ensures
    l.if-is_some.false _ l.is_legal.ensures (ap not f.if-not-is_legal.false) _ _ f.full_answer-full.ensures t.is_taken.ensures
    _ c.after_stored.result _ _ _ (ap not t.if-not-is_taken.false) c.taken.ensures c.after_stored.ensures k.keep.ensures
