use Rattle.answers.proofs.Places.{none_below, six-and-seven, none_between, twelve-on, none_above}
use Rattle.answers.specs.Answers.{points}
use Rattle.answers.proofs.points.Goals as goal

pub returns-in-6 : goal.returns-in-6
unfolding points
returns-in-6 c = rw (← c.number.ensures) (six-and-seven _ c.in-6.if-number-lt6-own.false c.in-6.if-this-lt8-own.true)

pub returns-in-12-to-15 : goal.returns-in-12-to-15
unfolding points
returns-in-12-to-15 c = rw (← c.number.ensures) (twelve-on _ c.in-12-to-15.if-this-lt12-own.false c.in-12-to-15.if-this-lt16-own.true)

pub returns-in_default : goal.returns-in_default
unfolding points
returns-in_default c = rw (← c.number.ensures) (none_below _ c.in_default.if-number-lt6-own.true)

pub returns-in_default-2 : goal.returns-in_default-2
unfolding points
returns-in_default-2 c = rw (← c.number.ensures) (none_between _ c.in_default.if-this-lt8-own.false c.in_default.if-this-lt12-own.true)

pub returns-in_default-3 : goal.returns-in_default-3
unfolding points
returns-in_default-3 c = rw (← c.number.ensures) (none_above _ c.in_default.if-this-lt16-own.false)
