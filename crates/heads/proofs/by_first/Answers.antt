use borrow.Author.Tests.{ne_eqb}
use Rattle.heads.specs.Heads.{head_by, find}
use Rattle.kinds.specs.Bytes.{between}
use Rattle.heads.proofs.by_first.Goals as goal

pub returns-in-81 : goal.returns-in-81
unfolding head_by find between
returns-in-81 c = rw c.in-81.is

pub returns-in-113 : goal.returns-in-113
unfolding head_by find between
returns-in-113 c = rw c.in-113.is

pub returns-in-82 : goal.returns-in-82
unfolding head_by find between
returns-in-82 c = rw c.in-82.is

pub returns-in-88 : goal.returns-in-88
unfolding head_by find between
returns-in-88 c = rw c.in-88.is

pub returns-in-65 : goal.returns-in-65
unfolding head_by find between
returns-in-65 c = rw c.in-65.is

pub returns-in-66 : goal.returns-in-66
unfolding head_by find between
returns-in-66 c = rw c.in-66.is

pub returns-in-67 : goal.returns-in-67
unfolding head_by find between
returns-in-67 c = rw c.in-67.is

pub returns-in-80 : goal.returns-in-80
unfolding head_by find between
returns-in-80 c = rw c.in-80.is

pub returns-in-78 : goal.returns-in-78
unfolding head_by find between
returns-in-78 c = rw c.in-78.is

pub returns-in_default : goal.returns-in_default
unfolding head_by find between
returns-in_default c = let r = c.in_default.in_default-own.rest in simp (ne_eqb _ 81 r.0.0.0.0.0.0.0.0.0.0.0.0.0.0.0.1, ne_eqb _ 113 r.0.0.0.0.0.0.0.0.0.0.0.0.0.0.1, ne_eqb _ 82 r.0.0.0.0.0.0.0.0.0.0.0.0.0.1, ne_eqb _ 90 r.0.0.0.0.0.0.0.0.0.0.0.0.1, ne_eqb _ 76 r.0.0.0.0.0.0.0.0.0.0.0.1, ne_eqb _ 88 r.0.0.0.0.0.0.0.0.0.0.1, ne_eqb _ 65 r.0.0.0.0.0.0.0.0.0.1, ne_eqb _ 66 r.0.0.0.0.0.0.0.0.1, ne_eqb _ 71 r.0.0.0.0.0.0.0.1, ne_eqb _ 70 r.0.0.0.0.0.0.1, ne_eqb _ 86 r.0.0.0.0.0.1, ne_eqb _ 67 r.0.0.0.0.1, ne_eqb _ 63 r.0.0.0.1, ne_eqb _ 80 r.0.0.1, ne_eqb _ 78 r.0.1, ne_eqb _ 84 r.1)
