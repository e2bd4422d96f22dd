use mathlib.Core.Path.{sym, ◌∙◌}
use native.Mathlib.Omega.{arith}
use Rattle.declarations.specs.Declarations.{width_at}
use Rattle.counters.proofs.Tens.{ten-small}
use Rattle.counter_steps.proofs.Moves.{step-minus, step-plus, stepped-minus, stepped-plus, stepped-out}
use Rattle.counter_steps.proofs.stepped.Goals as goal

pub overflow_sub-result : goal.overflow_sub-result
overflow_sub-result c = let a = c.args in rw (c.step_at.ensures, c.value_at-n.ensures) (step-minus a.d a.c a.k (sym c.minus_at.ensures ∙ c.if-minus_at.true) (sym c.inside_at.ensures ∙ c.if-inside_at.true))

pub returns-then-minus_at : goal.returns-then-minus_at
returns-then-minus_at c = let a = c.args in rw (c.step_at.ensures, c.value_at-n.ensures) (sym (stepped-minus a.d a.c a.k (sym c.inside_at.ensures ∙ c.if-inside_at.true) (sym c.minus_at.ensures ∙ c.if-minus_at.true)))

pub overflow_add-result : goal.overflow_add-result
overflow_add-result c = let a = c.args in rw (c.step_at-then-inside_at.ensures, c.value_at-n.ensures) (omega (arith, ten-small (width_at a.d a.k), step-plus a.d a.c a.k (sym c.minus_at.ensures ∙ c.if-minus_at.false) (sym c.inside_at.ensures ∙ c.if-inside_at.true)))

pub returns-then-inside_at : goal.returns-then-inside_at
returns-then-inside_at c = let a = c.args in rw (c.step_at-then-inside_at.ensures, c.value_at-n.ensures) (sym (stepped-plus a.d a.c a.k (sym c.inside_at.ensures ∙ c.if-inside_at.true) (sym c.minus_at.ensures ∙ c.if-minus_at.false)))

pub returns : goal.returns
returns c = let a = c.args in sym (stepped-out a.d a.c a.k (sym c.inside_at.ensures ∙ c.if-inside_at.false))
