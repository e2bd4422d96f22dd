use borrow.Author.Tests.{tests}
use Rattle.std.proofs.Common.{rules}
use Rattle.finding.proofs.Finding.{found-range}
use Rattle.fits.specs.Names.{in_use}
use Rattle.fits.proofs.names.user.Goals as goal

pub returns : goal.returns
returns c =
    found-range (in_use c.args.directory.now c.args.picture c.args.name.now) _ _ _ _ c.find.ensures.ran
    (λ x q k. search (rules, tests)) (λ x q k. search (rules, tests))
