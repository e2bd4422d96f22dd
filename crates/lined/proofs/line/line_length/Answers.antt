use mathlib.Core.Path.{sym, ◌∙◌}
use native.Mathlib.Omega.{arith}
use Rattle.kinds.proofs.FitData.{fit-most}
use Rattle.lined.proofs.Showing.{length-checked, length-plain, line-short}
use Rattle.lined.proofs.line.line_length.Goals as goal

pub overflow_add-result : goal.overflow_add-result
overflow_add-result c = omega (arith, fit-most c.args.kind c.args.s.now c.requires)

pub returns-then-checks : goal.returns-then-checks
returns-then-checks c = let a = c.args in
    let e = length-checked a.kind a.s.now (sym c.checks.ensures ∙ c.if-checks.true) in
    (e, omega (arith, e, line-short a.kind a.s.now c.requires))

pub returns-else-checks : goal.returns-else-checks
returns-else-checks c = let a = c.args in
    (length-plain a.kind a.s.now (sym c.checks.ensures ∙ c.if-checks.false), fit-most a.kind a.s.now c.requires)
