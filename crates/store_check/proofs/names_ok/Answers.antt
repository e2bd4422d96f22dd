use borrow.Author.Tests.{tests}
use Rattle.std.proofs.Common.{rules}
use Rattle.cells.proofs.Passing.{range-all}
use Rattle.store_sound.specs.Sound.{named_ok, names_ok}
use Rattle.store_check.proofs.names_ok.Goals as goal

pub returns : goal.returns
unfolding names_ok
returns c = range-all (named_ok c.args.directory.now) _ _ _ _ c.all.ensures.ran (λ x q k. search (rules, tests)) (λ x q k. search (rules, tests))
