use mathlib.Core.Path.{◌≡◌, ◌∙◌}
use mathlib.Core.Bool.{◌&&◌}
use lib.Dec.{eqb}
use borrow.Author.Tests.{tests}
use Rattle.std.proofs.Common.{rules}
use Rattle.std.specs.Prelude.{is_some}
use Rattle.store.specs.Entry.{entry, kind, name}
use Rattle.finding.specs.Find.{found, titled}
use Rattle.finding.proofs.Finding.{found-any}
use Rattle.verdicts.specs.Verdicts.{is_kept, kept_as, name_kept}
use Rattle.verdicts.proofs.names.name_kept.Goals as goal

pub returns : goal.returns
unfolding name_kept kept_as
returns c = let a = c.args in
    let ek : c.kind_at-k.result ≡ kind (entry a.directory.now a.i) = c.kind_at-k.ensures.0 in
    let et : c.name_at-title.result ≡ name (entry a.directory.now a.i) = c.name_at-title.ensures in
    found-any (λ j. is_kept a.verdicts.now j && titled a.directory.now (eqb c.kind_at-k.result 2) c.name_at-title.result j) _ _ _ _ c.any.ensures.ran
    (λ x q k. search (rules, tests)) (λ x q k. search (rules, tests))
    ∙ (λ p. is_some (found (λ j. is_kept a.verdicts.now j && titled a.directory.now (eqb (ek p) 2) (et p) j) a.i))
