use mathlib.Core.Path.{◌≡◌}
use mathlib.Core.Bool.{true, false}
use lib.Dec.{eqb}
use borrow.Author.Tests.{tests}
use Rattle.std.proofs.Common.{rules}
use Rattle.std.proofs.lemmas.Iterator.{IsFirst-from_position, YieldsList-from_slice}
use Rattle.finding.proofs.Finding.{found-in}
use Rattle.finding.proofs.lowest_free.Goals as goal

pub returns : goal.returns
returns c = found-in (λ x. eqb x 65535) _ _ (IsFirst-from_position _ _ _
    (λ x. eqb x 65535 ≡ true)
    (λ x. eqb x 65535 ≡ false)
    c.position.ensures.ran (YieldsList-from_slice c.args.links.now cc) (λ x q k. search (rules, tests)) (λ x q k. search (rules, tests)))
