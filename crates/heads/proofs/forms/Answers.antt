use borrow.Author.Tests.{ne_eqb}
use Rattle.heads.specs.Heads.{head_by, find}
use Rattle.kinds.specs.Bytes.{between}
use Rattle.heads.proofs.forms.Goals as goal

pub returns-in-83 : goal.returns-in-83
unfolding head_by find between
returns-in-83 c = λ d. rw c.in-83.is

pub returns-in-69 : goal.returns-in-69
unfolding head_by find between
returns-in-69 c = λ d. rw c.in-69.is

pub returns-in-82 : goal.returns-in-82
unfolding head_by find between
returns-in-82 c = λ d. rw c.in-82.is

pub returns-in-75 : goal.returns-in-75
unfolding head_by find between
returns-in-75 c = λ d. rw c.in-75.is

pub returns-in-73 : goal.returns-in-73
unfolding head_by find between
returns-in-73 c = λ d. rw c.in-73.is

pub returns-in-80 : goal.returns-in-80
unfolding head_by find between
returns-in-80 c = λ d. rw c.in-80.is

pub returns-in_default : goal.returns-in_default
unfolding head_by find between
returns-in_default c = λ d. let r = c.in_default.in_default-own.rest in simp (ne_eqb _ 83 r.0.0.0.0.0.1, ne_eqb _ 69 r.0.0.0.0.1, ne_eqb _ 82 r.0.0.0.1, ne_eqb _ 75 r.0.0.1, ne_eqb _ 73 r.0.1, ne_eqb _ 80 r.1)
