use mathlib.Core.Path.{◌∙◌}
use native.Mathlib.Omega.{arith}
use borrow.Author.Tests.{tests}
use Rattle.std.proofs.Common.{rules}
use Rattle.finding.specs.Bytes.{titled_by}
use Rattle.finding.proofs.Finding.{found-range}
use Rattle.finding.proofs.Naming.{found-by-number}
use Rattle.finding.proofs.find.Goals as goal

pub returns : goal.returns
returns c =
    found-range (titled_by c.args.directory.now c.args.picture c.number_of-w.result) _ _ _ _ c.find.ensures.ran
    (λ x q k. search (rules, tests)) (λ x q k. search (rules, tests))
    ∙ found-by-number c.args.directory.now _ c.args.picture _ _ (λ k. omega (arith, c.type_inv.directory k)) c.number_of-w.ensures.1 c.number_of-w.ensures.0
