use borrow.Author.Tests.{ne_eqb}
use Rattle.row_limits.proofs.is_limited.Goals as goal

pub returns-in-110 : goal.returns-in-110
returns-in-110 c = rw c.in-110.is

pub returns-in-119 : goal.returns-in-119
returns-in-119 c = rw c.in-119.is

pub returns-in-121 : goal.returns-in-121
returns-in-121 c = rw c.in-121.is

pub returns-in-115 : goal.returns-in-115
returns-in-115 c = rw c.in-115.is

pub returns-in-116 : goal.returns-in-116
returns-in-116 c = rw c.in-116.is

pub returns-in-97 : goal.returns-in-97
returns-in-97 c = rw c.in-97.is

pub returns-in-122 : goal.returns-in-122
returns-in-122 c = rw c.in-122.is

pub returns-in_default : goal.returns-in_default
returns-in_default c = let r = c.in_default.in_default-own.rest in simp (ne_eqb _ 110 r.0.0.0.0.0.0.1, ne_eqb _ 119 r.0.0.0.0.0.1, ne_eqb _ 121 r.0.0.0.0.1, ne_eqb _ 115 r.0.0.0.1, ne_eqb _ 116 r.0.0.1, ne_eqb _ 97 r.0.1, ne_eqb _ 122 r.1)
