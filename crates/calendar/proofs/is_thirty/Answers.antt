use borrow.Author.Tests.{ne_eqb}
use Rattle.calendar.specs.Clock.{thirty}
use Rattle.calendar.proofs.is_thirty.Goals as goal

pub returns-in-4 : goal.returns-in-4
unfolding thirty
returns-in-4 c = rw c.in-4.is

pub returns-in-6 : goal.returns-in-6
unfolding thirty
returns-in-6 c = rw c.in-6.is

pub returns-in-9 : goal.returns-in-9
unfolding thirty
returns-in-9 c = rw c.in-9.is

pub returns-in-11 : goal.returns-in-11
unfolding thirty
returns-in-11 c = rw c.in-11.is

pub returns-in_default : goal.returns-in_default
unfolding thirty
returns-in_default c = let r = c.in_default.in_default-own.rest in simp (ne_eqb _ 4 r.0.0.0.1, ne_eqb _ 6 r.0.0.1, ne_eqb _ 9 r.0.1, ne_eqb _ 11 r.1)
