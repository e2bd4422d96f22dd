use borrow.Author.Tests.{ne_eqb}
use Rattle.heads.specs.Heads.{head_by, find}
use Rattle.kinds.specs.Bytes.{between}
use Rattle.heads.proofs.slants.Goals as goal

pub returns-in-69 : goal.returns-in-69
unfolding head_by find between
returns-in-69 c = rw c.in-69.is

pub returns-in-87 : goal.returns-in-87
unfolding head_by find between
returns-in-87 c = rw c.in-87.is

pub returns-in_default : goal.returns-in_default
unfolding head_by find between
returns-in_default c = let r = c.in_default.in_default-own.rest in simp (ne_eqb _ 69 r.0.1, ne_eqb _ 87 r.1)
