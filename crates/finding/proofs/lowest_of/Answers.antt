use lib.Dec.{eqb}
use borrow.Author.Tests.{tests}
use Rattle.std.proofs.Common.{rules}
use Rattle.store.specs.Entry.{entry, kind}
use Rattle.finding.proofs.Finding.{found-range}
use Rattle.finding.proofs.lowest_of.Goals as goal

pub returns : goal.returns
returns c =
    found-range (λ i. eqb (kind (entry c.args.directory.now i)) c.args.kind) _ _ _ _ c.find.ensures.ran
    (λ x q k. search (rules, tests)) (λ x q k. search (rules, tests))
