use mathlib.Core.Path.{◌≡◌}
use mathlib.Core.Bool.{true, false}
use Rattle.std.proofs.Common.{rules, tests}
use Rattle.std.proofs.lemmas.Iterator.{cases_from_all, YieldsList-from_slice}
use Rattle.kinds.specs.Fit.{in_class}
use Rattle.kinds.proofs.Laws.{all_in-answer}
use Rattle.kinds.proofs.all_in.Goals as goal

pub returns : goal.returns
returns c = let k = c.args.k in let s = c.args.s.now in
    all_in-answer (in_class k) s c.all.result
    (cases_from_all _ _ _ (λ b. in_class k b ≡ true) (λ b. in_class k b ≡ false) c.all.ensures.ran (YieldsList-from_slice s cc)
    (λ x q e. search (rules, tests)) (λ x q e. search (rules, tests)))
