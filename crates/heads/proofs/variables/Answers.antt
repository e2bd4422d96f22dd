use borrow.Author.Tests.{ne_eqb}
use Rattle.heads.specs.Heads.{head_by, find}
use Rattle.kinds.specs.Bytes.{between}
use Rattle.heads.proofs.variables.Goals as goal

pub returns-in-67 : goal.returns-in-67
unfolding head_by find between
returns-in-67 c = λ d. rw c.in-67.is

pub returns-in_default : goal.returns-in_default
unfolding head_by find between
returns-in_default c = λ d. let r = c.in_default.in_default-own.rest in simp (ne_eqb _ 67 r.1)
