use Rattle.store_sound.specs.Sound.{store_sound}
use Rattle.store_check.proofs.Deciding.{skip, stop, chains-lent}
use Rattle.std.proofs.Common.{rules}
use Rattle.store_check.proofs.store_sound.Goals as goal

pub returns-then-not-lent_ok : goal.returns-then-not-lent_ok
unfolding store_sound
returns-then-not-lent_ok c = stop _ _ _ c.lent_ok.ensures c.if-not-lent_ok.true

pub returns-then-not-titles_ok : goal.returns-then-not-titles_ok
unfolding store_sound
returns-then-not-titles_ok c = skip _ _ _ _ c.lent_ok.ensures c.if-not-lent_ok.false (stop _ _ _ c.titles_ok.ensures c.if-not-titles_ok.true)

pub returns-then-not-chains_ok : goal.returns-then-not-chains_ok
unfolding store_sound
returns-then-not-chains_ok c = skip _ _ _ _ c.lent_ok.ensures c.if-not-lent_ok.false (skip _ _ _ _ c.titles_ok.ensures c.if-not-titles_ok.false (stop _ _ _ (chains-lent _ _ _ c.lent_ok.ensures c.if-not-lent_ok.false c.chains_ok.ensures) c.if-not-chains_ok.true))

pub returns : goal.returns
unfolding store_sound
returns c = skip _ _ _ _ c.lent_ok.ensures c.if-not-lent_ok.false (skip _ _ _ _ c.titles_ok.ensures c.if-not-titles_ok.false (skip _ _ _ _ (chains-lent _ _ _ c.lent_ok.ensures c.if-not-lent_ok.false c.chains_ok.ensures) c.if-not-chains_ok.false c.unused_ok.ensures))
