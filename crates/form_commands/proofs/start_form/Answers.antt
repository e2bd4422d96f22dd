use mathlib.Core.Path.{refl, ap}
use mathlib.Core.Bool.{not}
use Rattle.starting.proofs.Starting.{begun-is}
use Rattle.form_commands.proofs.Starting.{start-in-use, start-full, start-begun}
use Rattle.form_commands.proofs.start_form.Goals as goal

pub shape_of-directory-then-is_some : goal.shape_of-directory-then-is_some
shape_of-directory-then-is_some c = refl

pub returns-then-is_some : goal.returns-then-is_some
returns-then-is_some c = let u = c in let x = u.args in
    start-in-use x.session x.line.now x.n _ _ _ _ u.packed-title.ensures u.find.ensures u.is_some.ensures
    _ c.if-is_some.true c.answered.ensures

pub shape_of-directory-then-not-is_taken : goal.shape_of-directory-then-not-is_taken
shape_of-directory-then-not-is_taken c = refl

pub shape_of-links : goal.shape_of-links
shape_of-links c = c.links-1.given

pub shape_of-directory : goal.shape_of-directory
shape_of-directory c = c.directory-1.given

pub returns-then-not-is_taken : goal.returns-then-not-is_taken
returns-then-not-is_taken c = let f = c in let u = f in let x = u.args in
    start-full x.session x.line.now x.n _ _ _ _ u.packed-title.ensures u.find.ensures u.is_some.ensures
    f.if-is_some.false _ _ f.full_answer-full.ensures c.is_taken.ensures _ (ap not c.if-not-is_taken.true) c.answered-then-not-is_taken.ensures

pub returns : goal.returns
returns c = let b = c in let t = b in
    let f = t in let u = f in let x = u.args in
    start-begun x.session x.line.now x.n _ _ _ _ u.packed-title.ensures u.find.ensures u.is_some.ensures
    f.if-is_some.false _ _ f.full_answer-full.ensures t.is_taken.ensures
    _ c.after_stored.result _ _ (ap not t.if-not-is_taken.false) c.taken.ensures c.after_stored.ensures
    (begun-is _ _ _ _ _ _ _ b.begin.ensures.links b.begin.ensures.directory)
