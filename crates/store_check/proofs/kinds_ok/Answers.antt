use borrow.Author.Tests.{tests}
use Rattle.std.proofs.Common.{rules}
use Rattle.cells.proofs.Passing.{range-all}
use Rattle.store_sound.specs.Sound.{kind_ok, kinds_ok}
use Rattle.store_check.proofs.kinds_ok.Goals as goal

pub returns : goal.returns
unfolding kinds_ok
returns c = range-all (kind_ok c.args.directory.now) _ _ _ _ c.all.ensures.ran (λ x q k. search (rules, tests)) (λ x q k. search (rules, tests))
