-- What a legal clock is, fact by fact.
use mathlib.Core.Path.{◌≡◌, refl, ◌∙◌}
use mathlib.Core.Bool.{Bool, true, false, cond}
use Prim.Native.Nat.{ℕ, ◌+◌, ◌%◌, ◌≤◌}
use native.Mathlib.Omega.{arith}
use lib.Dec.{eqb}
use borrow.Author.Tests.{le-leb}
use Rattle.kinds.specs.Bytes.{between}
use Rattle.calendar.specs.declared.Clock.{Clock}
use Rattle.calendar.specs.Clock.{leap, thirty, days_in, legal_date, legal_time, legal_clock, fresh, last}
use Rattle.ground.proofs.Tests.{and_left, and_right}
use Rattle.kinds.proofs.Laws.{between-from, between-facts}

-- ---- days of a month

-- leap years by the year's own remainders: 100, 400 and 4 divide 2000
pub leap-rest : (y : ℕ) → leap y ≡ cond (eqb (y % 100) 0) (eqb (y % 400) 0) (eqb (y % 4) 0)
unfolding leap
leap-rest y =
    let a : (2000 + y) % 100 ≡ y % 100 = omega arith in
    let b : (2000 + y) % 400 ≡ y % 400 = omega arith in
    let d : (2000 + y) % 4 ≡ y % 4 = omega arith in
    rw (a, b, d)

-- 28 to 31
days-range : (two leaps long : Bool) → (28 ≤ cond two (cond leaps 29 28) (cond long 30 31)) × (cond two (cond leaps 29 28) (cond long 30 31) ≤ 31)
days-range true true long = (omega arith, omega arith)
days-range true false long = (omega arith, omega arith)
days-range false leaps true = (omega arith, omega arith)
days-range false leaps false = (omega arith, omega arith)

pub days-some : (y m : ℕ) → 28 ≤ days_in y m
unfolding days_in
days-some y m = (days-range (eqb m 2) (leap y) (thirty m)).0

pub days-most : (y m : ℕ) → days_in y m ≤ 31
unfolding days_in
days-most y m = (days-range (eqb m 2) (leap y) (thirty m)).1

pub days-december : (y : ℕ) → days_in y 12 ≡ 31
unfolding days_in thirty
days-december y = refl

-- ---- legal clocks

pub record Legal (c : Clock) : Type 0 where
  pub year : c.year ≤ 99
  pub month_low : 1 ≤ c.month
  pub month_high : c.month ≤ 12
  pub day_low : 1 ≤ c.day
  pub day_high : c.day ≤ days_in c.year c.month
  pub hour : c.hour ≤ 23
  pub minute : c.minute ≤ 59
  pub second : c.second ≤ 59

within : (lo hi b : ℕ) → lo ≤ b → b ≤ hi → between lo hi b ≡ true
within lo hi b h k = between-from lo hi b h ∙ le-leb b hi k

module _ (c : Clock) where
  pub legal-facts : legal_clock c ≡ true → Legal c
  unfolding legal_clock
  legal-facts h =
      let d = and_left (legal_date c) (legal_time c) h in
      let t = and_right (legal_date c) (legal_time c) h in
      let md = and_right (between 0 99 c.year) _ d in
      let m = and_left (between 1 12 c.month) _ md in
      let dd = and_right (between 1 12 c.month) _ md in
      let ms = and_right (between 0 23 c.hour) _ t in
      record {
        year = (between-facts 0 99 c.year (and_left (between 0 99 c.year) _ d)).1;
        month_low = (between-facts 1 12 c.month m).0;
        month_high = (between-facts 1 12 c.month m).1;
        day_low = (between-facts 1 (days_in c.year c.month) c.day dd).0;
        day_high = (between-facts 1 (days_in c.year c.month) c.day dd).1;
        hour = (between-facts 0 23 c.hour (and_left (between 0 23 c.hour) _ t)).1;
        minute = (between-facts 0 59 c.minute (and_left (between 0 59 c.minute) _ ms)).1;
        second = (between-facts 0 59 c.second (and_right (between 0 59 c.minute) _ ms)).1;
      }

  pub facts-legal : Legal c → legal_clock c ≡ true
  unfolding legal_clock
  facts-legal l = simp (
    within 0 99 c.year (omega arith) l.year,
    within 1 12 c.month l.month_low l.month_high,
    within 1 (days_in c.year c.month) c.day l.day_low l.day_high,
    within 0 23 c.hour (omega arith) l.hour,
    within 0 59 c.minute (omega arith) l.minute,
    within 0 59 c.second (omega arith) l.second,
  )

pub fresh-legal : legal_clock fresh ≡ true
unfolding legal_clock fresh days_in thirty between
fresh-legal = refl

pub last-legal : legal_clock last ≡ true
unfolding legal_clock last days_in thirty between
last-legal = refl
