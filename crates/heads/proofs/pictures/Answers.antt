use borrow.Author.Tests.{ne_eqb}
use Rattle.heads.specs.Heads.{head_by, find}
use Rattle.kinds.specs.Bytes.{between}
use Rattle.heads.proofs.pictures.Goals as goal

pub returns-in-71 : goal.returns-in-71
unfolding head_by find between
returns-in-71 c = λ d. rw c.in-71.is

pub returns-in-75 : goal.returns-in-75
unfolding head_by find between
returns-in-75 c = λ d. rw c.in-75.is

pub returns-in-73 : goal.returns-in-73
unfolding head_by find between
returns-in-73 c = λ d. rw c.in-73.is

pub returns-in-77 : goal.returns-in-77
unfolding head_by find between
returns-in-77 c = λ d. rw c.in-77.is

pub returns-in_default : goal.returns-in_default
unfolding head_by find between
returns-in_default c = λ d. let r = c.in_default.in_default-own.rest in simp (ne_eqb _ 71 r.0.0.0.1, ne_eqb _ 75 r.0.0.1, ne_eqb _ 73 r.0.1, ne_eqb _ 77 r.1)
