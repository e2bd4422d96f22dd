use Rattle.stamps.specs.Always.{good_field}
use Rattle.stamps.proofs.good_field.Goals as goal

pub returns-in-Date : goal.returns-in-Date
unfolding good_field
returns-in-Date c = rw (c.in-Date.is, ← c.in_class.ensures) c.either.ensures

pub returns-in-Time : goal.returns-in-Time
unfolding good_field
returns-in-Time c = rw c.in-Time.is
