use Rattle.sound.specs.Sound.{numbers_ok, sound}
use Rattle.sound.proofs.Clauses.{stop, skip}
use Rattle.sound.proofs.Numbered.{number_ok}
use Rattle.std.proofs.Common.{rules}
use Rattle.sound.proofs.is_sound.Goals as goal

pub returns-then-not-numbers_ok : goal.returns-then-not-numbers_ok
unfolding sound numbers_ok
returns-then-not-numbers_ok c = stop _ _ _ c.numbers_ok.ensures c.if-not-numbers_ok.true

pub returns-then-not-times_ok : goal.returns-then-not-times_ok
unfolding sound numbers_ok
returns-then-not-times_ok c = let n = c in
    skip _ _ _ _ n.numbers_ok.ensures c.if-not-numbers_ok.false (stop _ _ _ c.times_ok.ensures c.if-not-times_ok.true)

pub returns-then-not-background_ok : goal.returns-then-not-background_ok
unfolding sound numbers_ok
returns-then-not-background_ok c = let m = c in let n = m in
    skip _ _ _ _ n.numbers_ok.ensures m.if-not-numbers_ok.false
    (skip _ _ _ _ m.times_ok.ensures c.if-not-times_ok.false (stop _ _ _ c.background_ok.ensures c.if-not-background_ok.true))

pub returns-then-not-store_sound : goal.returns-then-not-store_sound
unfolding sound numbers_ok
returns-then-not-store_sound c = let b = c in let m = b in let n = m in
    skip _ _ _ _ n.numbers_ok.ensures m.if-not-numbers_ok.false
    (skip _ _ _ _ m.times_ok.ensures b.if-not-times_ok.false
    (skip _ _ _ _ b.background_ok.ensures c.if-not-background_ok.false (stop _ _ _ c.store_sound.ensures c.if-not-store_sound.true)))

pub returns-then-not-number_ok : goal.returns-then-not-number_ok
unfolding sound numbers_ok
returns-then-not-number_ok c = let t = c in let b = t in let m = b in let n = m in
    skip _ _ _ _ n.numbers_ok.ensures m.if-not-numbers_ok.false
    (skip _ _ _ _ m.times_ok.ensures b.if-not-times_ok.false
    (skip _ _ _ _ b.background_ok.ensures t.if-not-background_ok.false
    (skip _ _ _ _ t.store_sound.ensures c.if-not-store_sound.false
    (stop _ _ _ (number_ok _ _ _ _ _ _ t.store_sound.ensures c.if-not-store_sound.false c.number_ok.ensures) c.if-not-number_ok.true))))

pub returns-then-not-contents_ok : goal.returns-then-not-contents_ok
unfolding sound numbers_ok
returns-then-not-contents_ok c = let f = c in let t = f in let b = t in let m = b in let n = m in
    skip _ _ _ _ n.numbers_ok.ensures m.if-not-numbers_ok.false
    (skip _ _ _ _ m.times_ok.ensures b.if-not-times_ok.false
    (skip _ _ _ _ b.background_ok.ensures t.if-not-background_ok.false
    (skip _ _ _ _ t.store_sound.ensures f.if-not-store_sound.false
    (skip _ _ _ _ (number_ok _ _ _ _ _ _ t.store_sound.ensures f.if-not-store_sound.false f.number_ok.ensures) c.if-not-number_ok.false
    (stop _ _ _ c.contents_ok.ensures c.if-not-contents_ok.true)))))

pub returns : goal.returns
unfolding sound numbers_ok
returns c = let e = c in let f = e in let t = f in let b = t in let m = b in let n = m in
    skip _ _ _ _ n.numbers_ok.ensures m.if-not-numbers_ok.false
    (skip _ _ _ _ m.times_ok.ensures b.if-not-times_ok.false
    (skip _ _ _ _ b.background_ok.ensures t.if-not-background_ok.false
    (skip _ _ _ _ t.store_sound.ensures f.if-not-store_sound.false
    (skip _ _ _ _ (number_ok _ _ _ _ _ _ t.store_sound.ensures f.if-not-store_sound.false f.number_ok.ensures) e.if-not-number_ok.false
    (skip _ _ _ _ e.contents_ok.ensures c.if-not-contents_ok.false c.activity_sound.ensures)))))
