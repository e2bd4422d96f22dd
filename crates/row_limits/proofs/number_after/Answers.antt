use borrow.Author.Tests.{ne_eqb}
use Rattle.row_limits.proofs.number_after.Goals as goal

pub returns-in-110 : goal.returns-in-110
returns-in-110 c = rw c.in-110.is

pub returns-in-119 : goal.returns-in-119
returns-in-119 c = rw c.in-119.is

pub returns-in-121 : goal.returns-in-121
returns-in-121 c = rw c.in-121.is

pub returns-in_default : goal.returns-in_default
returns-in_default c = let r = c.in_default.in_default-own.rest in simp (ne_eqb _ 110 r.0.0.1, ne_eqb _ 119 r.0.1, ne_eqb _ 121 r.1)
