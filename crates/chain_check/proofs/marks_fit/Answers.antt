use borrow.Author.Tests.{tests}
use Rattle.std.proofs.Common.{rules}
use Rattle.cells.proofs.Passing.{range-all}
use Rattle.chain_check.specs.Claim.{mark_fits}
use Rattle.chain_check.proofs.marks_fit.Goals as goal

pub returns : goal.returns
returns c = range-all (mark_fits c.args.links.now c.args.marks.now) _ _ _ _ c.all.ensures.ran (λ x q k. search (rules, tests)) (λ x q k. search (rules, tests))
