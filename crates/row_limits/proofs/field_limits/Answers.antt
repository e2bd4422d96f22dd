use borrow.Author.Tests.{ne_eqb, eq-eqb}
use Rattle.row_limits.specs.Limits.{field_limits}
use Rattle.row_limits.proofs.field_limits.Goals as goal

pub returns-then-f-eq100 : goal.returns-then-f-eq100
unfolding field_limits
returns-then-f-eq100 c = rw (eq-eqb _ 100 c.if-f-eq100.true) c.data_limits.ensures

pub returns-then-is_met : goal.returns-then-is_met
unfolding field_limits
returns-then-is_met c = rw (ne_eqb _ 100 c.if-f-eq100.false, ← c.is_limited.ensures, c.if-is_limited.true, ← c.bound_by-b.ensures, ← c.is_within.ensures, c.if-is_within.true, ← c.is_met.ensures, c.if-is_met.true)

pub returns-then-is_within : goal.returns-then-is_within
unfolding field_limits
returns-then-is_within c = rw (ne_eqb _ 100 c.if-f-eq100.false, ← c.is_limited.ensures, c.if-is_limited.true, ← c.bound_by-b.ensures, ← c.is_within.ensures, c.if-is_within.true, ← c.is_met.ensures, c.if-is_met.false)

pub returns-then-is_limited : goal.returns-then-is_limited
unfolding field_limits
returns-then-is_limited c = rw (ne_eqb _ 100 c.if-f-eq100.false, ← c.is_limited.ensures, c.if-is_limited.true, ← c.bound_by-b.ensures, ← c.is_within.ensures, c.if-is_within.false)

pub returns : goal.returns
unfolding field_limits
returns c = rw (ne_eqb _ 100 c.if-f-eq100.false, ← c.is_limited.ensures, c.if-is_limited.false)
