use Prim.Native.Nat.{◌≤◌, ◌<◌}
use native.Mathlib.Omega.{arith}
use borrow.Author.Tests.{lt-ltb, le-ltb}
use Rattle.calendar.specs.Clock.{days_in, next_day}
use Rattle.calendar.proofs.Clocks.{days-most}
use Rattle.calendar.proofs.Clock.next_day.Goals as goal

pub overflow_add-result : goal.overflow_add-result
overflow_add-result c = let x = c.args.self in
    omega (arith, c.days.ensures, c.wide.ensures, days-most x.year x.month)

pub returns-then-wide-days : goal.returns-then-wide-days
unfolding next_day
returns-then-wide-days c = let x = c.args.self in
    let h : x.day < days_in x.year x.month = omega (arith, c.days.ensures, c.wide.ensures) in
    rw (lt-ltb x.day (days_in x.year x.month) h)

pub returns-then-self-lt12 : goal.returns-then-self-lt12
unfolding next_day
returns-then-self-lt12 c = let x = c.args.self in
    let h : days_in x.year x.month ≤ x.day = omega (arith, c.days.ensures, c.wide.ensures) in
    rw (le-ltb x.day (days_in x.year x.month) h, lt-ltb _ 12 c.if-self-lt12.true)

pub returns : goal.returns
unfolding next_day
returns c = let x = c.args.self in
    let h : days_in x.year x.month ≤ x.day = omega (arith, c.days.ensures, c.wide.ensures) in
    rw (le-ltb x.day (days_in x.year x.month) h, le-ltb _ 12 c.if-self-lt12.false)
