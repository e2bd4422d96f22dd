use borrow.Author.Tests.{tests}
use Rattle.std.proofs.Common.{rules}
use Rattle.cells.proofs.Passing.{range-all}
use Rattle.store_sound.specs.Sound.{tail_ok, tails_ok}
use Rattle.store_check.proofs.tails_ok.Goals as goal

pub returns : goal.returns
unfolding tails_ok
returns c = range-all (tail_ok c.args.store.now c.args.links.now c.args.directory.now) _ _ _ _ c.all.ensures.ran (λ x q k. search (rules, tests)) (λ x q k. search (rules, tests))
