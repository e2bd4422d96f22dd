use borrow.Author.Tests.{ne_eqb}
use Rattle.row_limits.specs.Limits.{meets}
use Rattle.row_limits.proofs.is_met.Goals as goal

pub returns-in-119 : goal.returns-in-119
unfolding meets
returns-in-119 c = rw c.in-119.is

pub returns-in-121 : goal.returns-in-121
unfolding meets
returns-in-121 c = rw c.in-121.is c.is_day.ensures

pub returns-in-97 : goal.returns-in-97
unfolding meets
returns-in-97 c = rw c.in-97.is c.is_name.ensures

pub returns-in-122 : goal.returns-in-122
unfolding meets
returns-in-122 c = rw c.in-122.is c.is_either.ensures

pub returns-in_default : goal.returns-in_default
unfolding meets
returns-in_default c = let r = c.in_default.in_default-own.rest in simp (ne_eqb _ 119 r.0.0.0.1, ne_eqb _ 121 r.0.0.1, ne_eqb _ 97 r.0.1, ne_eqb _ 122 r.1)
