use mathlib.Core.Path.{ap, ◌∙◌}
use Rattle.stamps.specs.declared.Text.{Text}
use Rattle.stamps.specs.Laying.{added, added_all}
use borrow.Author.Tests.{ne_eqb}
use Rattle.stamps.specs.Texts.{two_digits, date_shown}
use Rattle.stamps.proofs.Text.add_date.Goals as goal

pub returns-in-1 : goal.returns-in-1
unfolding date_shown
returns-in-1 c = rw c.in-1.is c.add_two.ensures

pub returns-in-2 : goal.returns-in-2
unfolding date_shown
returns-in-2 c = rw c.in-2.is (c.add_two-in-2.ensures ∙ ap (λ (t : Text). added_all t (two_digits c.args.c.year)) (c.add-in-2.ensures ∙ ap (λ (t : Text). added t 48) c.add.ensures))

pub returns-in-3 : goal.returns-in-3
unfolding date_shown
returns-in-3 c = rw c.in-3.is c.add_month.ensures

pub returns-in-4 : goal.returns-in-4
unfolding date_shown
returns-in-4 c = rw c.in-4.is c.add_two-in-4.ensures

pub returns-in-5 : goal.returns-in-5
unfolding date_shown
returns-in-5 c = rw c.in-5.is c.add_two-in-5.ensures

pub returns-in_default : goal.returns-in_default
unfolding date_shown
returns-in_default c = let r = c.in_default.in_default-own.rest in simp (ne_eqb _ 1 r.0.0.0.0.1, ne_eqb _ 2 r.0.0.0.1, ne_eqb _ 3 r.0.0.1, ne_eqb _ 4 r.0.1, ne_eqb _ 5 r.1)
