use borrow.Author.Tests.{ne_eqb}
use Rattle.heads.specs.Heads.{head_by, find}
use Rattle.kinds.specs.Bytes.{between}
use Rattle.heads.proofs.turns.Goals as goal

pub returns-in-84 : goal.returns-in-84
unfolding head_by find between
returns-in-84 c = λ d. rw c.in-84.is

pub returns-in-66 : goal.returns-in-66
unfolding head_by find between
returns-in-66 c = λ d. rw c.in-66.is

pub returns-in_default : goal.returns-in_default
unfolding head_by find between
returns-in_default c = λ d. let r = c.in_default.in_default-own.rest in simp (ne_eqb _ 84 r.0.1, ne_eqb _ 66 r.1)
