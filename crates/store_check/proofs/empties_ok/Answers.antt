use borrow.Author.Tests.{tests}
use Rattle.std.proofs.Common.{rules}
use Rattle.cells.proofs.Passing.{range-all}
use Rattle.store_sound.specs.Sound.{empty_ok, empties_ok}
use Rattle.store_check.proofs.empties_ok.Goals as goal

pub returns : goal.returns
unfolding empties_ok
returns c = range-all (empty_ok c.args.directory.now) _ _ _ _ c.all.ensures.ran (λ x q k. search (rules, tests)) (λ x q k. search (rules, tests))
