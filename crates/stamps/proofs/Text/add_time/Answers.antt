use borrow.Author.Tests.{ne_eqb}
use Rattle.stamps.specs.Texts.{time_shown}
use Rattle.stamps.proofs.Text.add_time.Goals as goal

pub returns-in-1 : goal.returns-in-1
unfolding time_shown
returns-in-1 c = rw c.in-1.is c.add_two.ensures

pub returns-in-2 : goal.returns-in-2
unfolding time_shown
returns-in-2 c = rw c.in-2.is c.add_two-in-2.ensures

pub returns-in-3 : goal.returns-in-3
unfolding time_shown
returns-in-3 c = rw c.in-3.is c.add_two-in-3.ensures

pub returns-in_default : goal.returns-in_default
unfolding time_shown
returns-in_default c = let r = c.in_default.in_default-own.rest in simp (ne_eqb _ 1 r.0.0.1, ne_eqb _ 2 r.0.1, ne_eqb _ 3 r.1)
