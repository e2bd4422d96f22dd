use borrow.Author.Tests.{tests}
use Rattle.std.proofs.Common.{rules}
use Rattle.cells.proofs.Passing.{range-all}
use Rattle.store_sound.specs.Sound.{free_ok, frees_ok}
use Rattle.store_check.proofs.frees_ok.Goals as goal

pub returns : goal.returns
unfolding frees_ok
returns c = range-all (free_ok c.args.store.now c.args.links.now) _ _ _ _ c.all.ensures.ran (λ x q k. search (rules, tests)) (λ x q k. search (rules, tests))
