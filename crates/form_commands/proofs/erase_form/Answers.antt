use mathlib.Core.Path.{refl}
use Rattle.form_commands.proofs.Erasing.{none-erased, all-erased, active-erased, other-erased}
use Rattle.form_commands.proofs.erase_form.Goals as goal

pub shape_of-directory-then-is_missing : goal.shape_of-directory-then-is_missing
shape_of-directory-then-is_missing c = refl

pub returns-then-is_missing : goal.returns-then-is_missing
returns-then-is_missing c = let e = c in let x = e.args in
    none-erased x.session _ x.n _ _ _ _ e.entry_of-found.ensures c.is_missing.ensures c.if-is_missing.true c.answered.ensures

pub shape_of-store-then-all : goal.shape_of-store-then-all
shape_of-store-then-all c = c.store-1.given

pub shape_of-links-then-all : goal.shape_of-links-then-all
shape_of-links-then-all c = c.links-1.given

pub shape_of-directory-then-all : goal.shape_of-directory-then-all
shape_of-directory-then-all c = c.directory-1.given

pub shape_of-values-then-all : goal.shape_of-values-then-all
shape_of-values-then-all c = c.values-1.given

pub returns-then-all : goal.returns-then-all
returns-then-all c = let a = c in let e = a in let i = e in
    let x = i.args in
    all-erased x.session e.erase_every-after.result _ x.n _ _ _ _ _ _ _ _ _ i.entry_of-found.ensures i.is_missing.ensures i.if-is_missing.false _ _ e.if-all.true a.activate.ensures.0 a.activate.ensures.1 e.erase_every-after.ensures

pub shape_of-store-then-active-i : goal.shape_of-store-then-active-i
shape_of-store-then-active-i c = c.store-2-1.given

pub shape_of-links-then-active-i : goal.shape_of-links-then-active-i
shape_of-links-then-active-i c = c.links-2-1.given

pub shape_of-directory-then-active-i : goal.shape_of-directory-then-active-i
shape_of-directory-then-active-i c = c.directory-2-1.given

pub shape_of-values-then-active-i : goal.shape_of-values-then-active-i
shape_of-values-then-active-i c = c.values-then-active-i-1.given

pub returns-then-active-i : goal.returns-then-active-i
returns-then-active-i c = let a = c in let e = a in let p = e in let i = p in
    active-erased _ _ _ _ _ _ _ _ _ _ _ _ _ i.entry_of-found.ensures i.is_missing.ensures i.if-is_missing.false p.if-all.false e.erase_found-after.ensures _ p.place_of-i.ensures _ _ a.if-active-i.true a.activate-then-active-i.ensures.0 a.activate-then-active-i.ensures.1

pub shape_of-store : goal.shape_of-store
shape_of-store c = c.store-2-1.given

pub shape_of-links : goal.shape_of-links
shape_of-links c = c.links-2-1.given

pub shape_of-directory : goal.shape_of-directory
shape_of-directory c = c.directory-2-1.given

pub returns : goal.returns
returns c = let e = c in let p = e in let i = p in
    other-erased _ _ _ _ _ _ _ _ _ _ _ _ _ i.entry_of-found.ensures i.is_missing.ensures i.if-is_missing.false p.if-all.false e.erase_found-after.ensures _ p.place_of-i.ensures _ c.if-active-i.false c.taken.ensures
