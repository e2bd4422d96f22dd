use mathlib.Core.Path.{sym, ◌∙◌}
use Rattle.counter_steps.proofs.Moves.{moved-steps, moved-rests}
use Rattle.counter_steps.proofs.moved_at.Goals as goal

pub returns-then-counts_at : goal.returns-then-counts_at
returns-then-counts_at c = let a = c.args in c.stepped.ensures ∙ sym (moved-steps a.d a.c a.k (sym c.counts_at.ensures ∙ c.if-counts_at.true))

pub returns : goal.returns
returns c = let a = c.args in rw (c.value_at.ensures, c.tenth_byte.ensures) (sym (moved-rests a.d a.c a.k (sym c.counts_at.ensures ∙ c.if-counts_at.false)))
