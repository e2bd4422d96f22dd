-- Paper 02, §10: the clock, which dates and times there are, and the seconds that pass.
-- Assumes nothing.
use Rattle.std.specs.Prelude.{ℕ, zero, suc, ◌+◌, ◌%◌, Bool, cond, ◌&&◌, ◌||◌, leb, ltb, eqb, Result, Ok, Err}
use Rattle.kinds.specs.Bytes.{between}
use Rattle.calendar.specs.declared.Clock.{Clock}
use Rattle.calendar.specs.declared.Unmoved.{Unmoved}
use Rattle.calendar.specs.declared.Unmoved.TheVariants.{NoClock, TooLong}

abbrev pub clock : ℕ → ℕ → ℕ → ℕ → ℕ → ℕ → Clock
clock y mo d h mi s = record { year = y; month = mo; day = d; hour = h; minute = mi; second = s }

-- ---- dates and times

-- "year 0..99 (read as 2000 to 2099)": every fourth year is a leap year, of the full hundreds every fourth
unfoldable pub leap : ℕ → Bool
leap y = cond (eqb ((2000 + y) % 100) 0) (eqb ((2000 + y) % 400) 0) (eqb ((2000 + y) % 4) 0)

-- April, June, September and November
unfoldable pub thirty : ℕ → Bool
thirty m = eqb m 4 || (eqb m 6 || (eqb m 9 || eqb m 11))

-- "the day checked against month and leap year"
unfoldable pub days_in : ℕ → ℕ → ℕ
days_in y m = cond (eqb m 2) (cond (leap y) 29 28) (cond (thirty m) 30 31)

abbrev pub legal_date : Clock → Bool
legal_date c = between 0 99 c.year && (between 1 12 c.month && between 1 (days_in c.year c.month) c.day)

-- "hour, minute, second in the manual's limits"
abbrev pub legal_time : Clock → Bool
legal_time c = between 0 23 c.hour && (between 0 59 c.minute && between 0 59 c.second)

unfoldable pub legal_clock : Clock → Bool
legal_clock c = legal_date c && legal_time c

-- "unset, the clock is 1 January 2000 at midnight"
unfoldable pub fresh : Clock
fresh = clock 0 1 1 0 0 0

-- ---- seconds

-- the last day, and its last second
unfoldable pub last_day : Clock → Bool
last_day c = eqb c.year 99 && (eqb c.month 12 && eqb c.day 31)

unfoldable pub last : Clock
last = clock 99 12 31 23 59 59

-- midnight of the next day: in the same month, in the next, or in the next year
unfoldable pub next_day : Clock → Clock
next_day c =
    cond (ltb c.day (days_in c.year c.month)) (clock c.year c.month (c.day + 1) 0 0 0)
    (cond (ltb c.month 12) (clock c.year (c.month + 1) 1 0 0 0)
    (clock (c.year + 1) 1 1 0 0 0))

-- one second more; "past the end of 2099 it stands at the last second"
unfoldable pub tick : Clock → Clock
tick c =
    cond (ltb c.second 59) (clock c.year c.month c.day c.hour c.minute (c.second + 1))
    (cond (ltb c.minute 59) (clock c.year c.month c.day c.hour (c.minute + 1) 0)
    (cond (ltb c.hour 23) (clock c.year c.month c.day (c.hour + 1) 0 0)
    (cond (last_day c) c (next_day c))))

-- "moved by .. the seconds passed", one after the other
unfoldable pub after : Clock → ℕ → Clock
after c zero = c
after c (suc n) = after (tick c) n

-- "a call that gives the seconds passed, 0 to 86,400"; "3 from the clock call for a bad clock, 7 for a wrong date or seconds"
unfoldable pub moved : Clock → ℕ → Result Clock Unmoved
moved c n = cond (legal_clock c) (cond (leb n 86400) (Ok (after c n)) (Err TooLong)) (Err NoClock)
