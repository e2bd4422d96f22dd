use mathlib.Core.Path.{refl}
use Rattle.picture_commands.proofs.Erasing.{none-erased, all-erased, one-erased}
use Rattle.picture_commands.proofs.erase_picture.Goals as goal

pub shape_of-directory-then-is_missing : goal.shape_of-directory-then-is_missing
shape_of-directory-then-is_missing c = refl

pub returns-then-is_missing : goal.returns-then-is_missing
returns-then-is_missing c = let e = c in let x = e.args in
    none-erased x.session x.line.now x.n _ _ _ _ e.entry_of-found.ensures c.is_missing.ensures c.if-is_missing.true c.answered.ensures

pub shape_of-store-then-all : goal.shape_of-store-then-all
shape_of-store-then-all c = c.store-1.given

pub shape_of-links-then-all : goal.shape_of-links-then-all
shape_of-links-then-all c = c.links-1.given

pub shape_of-directory-then-all : goal.shape_of-directory-then-all
shape_of-directory-then-all c = c.directory-1.given

pub returns-then-all : goal.returns-then-all
returns-then-all c = let e = c in let i = e in
    let x = i.args in
    all-erased x.session e.erase_every-after.result x.line.now x.n _ _ _ _ i.entry_of-found.ensures i.is_missing.ensures i.if-is_missing.false _ c.taken.ensures e.if-all.true e.erase_every-after.ensures

pub shape_of-store : goal.shape_of-store
shape_of-store c = c.store-2-1.given

pub shape_of-links : goal.shape_of-links
shape_of-links c = c.links-2-1.given

pub shape_of-directory : goal.shape_of-directory
shape_of-directory c = c.directory-2-1.given

pub returns : goal.returns
returns c = let e = c in let i = e in
    let x = i.args in
    one-erased x.session e.erase_found-after.result x.line.now x.n _ _ _ _ i.entry_of-found.ensures i.is_missing.ensures i.if-is_missing.false _ c.taken-2.ensures e.if-all.false e.erase_found-after.ensures
