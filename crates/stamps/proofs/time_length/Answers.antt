use borrow.Author.Tests.{ne_eqb}
use Rattle.stamps.specs.Always.{length_of}
use Rattle.stamps.proofs.time_length.Goals as goal

pub returns-in-1 : goal.returns-in-1
unfolding length_of
returns-in-1 c = rw c.in-1.is

pub returns-in-2 : goal.returns-in-2
unfolding length_of
returns-in-2 c = rw c.in-2.is

pub returns-in-3 : goal.returns-in-3
unfolding length_of
returns-in-3 c = rw c.in-3.is

pub returns-in_default : goal.returns-in_default
unfolding length_of
returns-in_default c = let r = c.in_default.in_default-own.rest in simp (ne_eqb _ 1 r.0.0.1, ne_eqb _ 2 r.0.1, ne_eqb _ 3 r.1)
