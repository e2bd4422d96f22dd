-- Dates, the manual's example, and the edges of the calendar, computed.
-- Assumes nothing.
use Rattle.std.specs.Prelude.{ℕ, ◌≡◌, refl, true, false, List, [], ◌∷◌, Ok, Err}
use Rattle.kinds.specs.Bytes.{between}
use Rattle.calendar.specs.declared.Clock.{Clock}
use Rattle.calendar.specs.declared.Unmoved.TheVariants.{NoClock, TooLong}
use Rattle.calendar.specs.Clock.{clock, leap, thirty, days_in, legal_clock, fresh, last, last_day, next_day, tick, after, moved}

-- 2000, 2004 and 2096 are leap years, 2001, 2098 and 2099 are none; by the same rule 2100 is none, and 2400 is one
case-leap : leap 0 ∷ leap 4 ∷ leap 96 ∷ leap 1 ∷ leap 98 ∷ leap 99 ∷ leap 100 ∷ leap 400 ∷ [] ≡ true ∷ true ∷ true ∷ false ∷ false ∷ false ∷ false ∷ true ∷ []
unfolding leap
case-leap = refl

-- the months of a year
months : ℕ → List ℕ
months y =
    days_in y 1 ∷ days_in y 2 ∷ days_in y 3 ∷ days_in y 4 ∷ days_in y 5 ∷ days_in y 6
    ∷ days_in y 7 ∷ days_in y 8 ∷ days_in y 9 ∷ days_in y 10 ∷ days_in y 11 ∷ days_in y 12 ∷ []

case-days : months 1 ≡ 31 ∷ 28 ∷ 31 ∷ 30 ∷ 31 ∷ 30 ∷ 31 ∷ 31 ∷ 30 ∷ 31 ∷ 30 ∷ 31 ∷ []
unfolding months days_in leap thirty
case-days = refl

case-leap-days : months 0 ≡ 31 ∷ 29 ∷ 31 ∷ 30 ∷ 31 ∷ 30 ∷ 31 ∷ 31 ∷ 30 ∷ 31 ∷ 30 ∷ 31 ∷ []
unfolding months days_in leap thirty
case-leap-days = refl

-- the first clock, the last, 29 February 2000 and 2004, and the manual's `TS04,2,04,14,10,12`
case-legal :
    legal_clock fresh ∷ legal_clock last ∷ legal_clock (clock 0 2 29 0 0 0) ∷ legal_clock (clock 4 2 29 23 59 59) ∷ legal_clock (clock 4 4 2 14 10 12) ∷ []
    ≡ true ∷ true ∷ true ∷ true ∷ true ∷ []
unfolding legal_clock fresh last days_in leap thirty between
case-legal = refl

-- 29 February 2001, 30 February 2000, 31 April, a month 0 and 13, a day 0
case-no-date :
    legal_clock (clock 1 2 29 0 0 0)
    ∷ legal_clock (clock 0 2 30 0 0 0)
    ∷ legal_clock (clock 4 4 31 0 0 0)
    ∷ legal_clock (clock 4 0 1 0 0 0)
    ∷ legal_clock (clock 4 13 1 0 0 0)
    ∷ legal_clock (clock 4 4 0 0 0 0)
    ∷ []
    ≡ false ∷ false ∷ false ∷ false ∷ false ∷ false ∷ []
unfolding legal_clock days_in leap thirty between
case-no-date = refl

-- a year 100, an hour 24, a minute and a second 60
case-no-time :
    legal_clock (clock 100 1 1 0 0 0) ∷ legal_clock (clock 4 4 2 24 0 0) ∷ legal_clock (clock 4 4 2 0 60 0) ∷ legal_clock (clock 4 4 2 0 0 60) ∷ []
    ≡ false ∷ false ∷ false ∷ false ∷ []
unfolding legal_clock days_in leap thirty between
case-no-time = refl

-- ---- seconds

-- the second after the last of a day
over : ℕ → ℕ → ℕ → Clock
over y m d = after (clock y m d 23 59 59) 1

-- into a leap day and past it; past 28 February where the year has none
case-february :
    over 0 2 28 ∷ over 0 2 29 ∷ over 4 2 28 ∷ over 4 2 29 ∷ over 1 2 28 ∷ over 99 2 28 ∷ []
    ≡ clock 0 2 29 0 0 0 ∷ clock 0 3 1 0 0 0 ∷ clock 4 2 29 0 0 0 ∷ clock 4 3 1 0 0 0 ∷ clock 1 3 1 0 0 0 ∷ clock 99 3 1 0 0 0 ∷ []
unfolding over after tick last_day next_day days_in leap thirty
case-february = refl

-- every other month's end
case-months :
    over 1 1 31 ∷ over 1 3 31 ∷ over 1 4 30 ∷ over 1 5 31 ∷ over 1 6 30 ∷ over 1 7 31 ∷ over 1 8 31 ∷ over 1 9 30 ∷ over 1 10 31 ∷ over 1 11 30 ∷ over 1 12 31 ∷ []
    ≡ clock 1 2 1 0 0 0 ∷ clock 1 4 1 0 0 0 ∷ clock 1 5 1 0 0 0 ∷ clock 1 6 1 0 0 0 ∷ clock 1 7 1 0 0 0 ∷ clock 1 8 1 0 0 0
    ∷ clock 1 9 1 0 0 0 ∷ clock 1 10 1 0 0 0 ∷ clock 1 11 1 0 0 0 ∷ clock 1 12 1 0 0 0 ∷ clock 2 1 1 0 0 0 ∷ []
unfolding over after tick last_day next_day days_in leap thirty
case-months = refl

-- the day before is no month's end; a minute and a second on; a day's last second goes by hours too
case-within :
    over 1 1 30 ∷ after (clock 4 4 2 14 10 12) 61 ∷ after (clock 4 4 2 14 59 59) 1 ∷ []
    ≡ clock 1 1 31 0 0 0 ∷ clock 4 4 2 14 11 13 ∷ clock 4 4 2 15 0 0 ∷ []
unfolding over after tick last_day next_day days_in leap thirty
case-within = refl

-- "past the end of 2099 it stands at the last second"; the end of December of another year is no such end
case-last : after (clock 99 12 31 23 59 58) 1 ∷ after (clock 99 12 31 23 59 58) 5 ∷ over 98 12 31 ∷ over 99 12 30 ∷ [] ≡ last ∷ last ∷ clock 99 1 1 0 0 0 ∷ clock 99 12 31 0 0 0 ∷ []
unfolding over after tick last_day next_day last days_in leap thirty
case-last = refl

-- ---- the clock call

-- nothing passed; a second too many; a clock that is none, of which nothing else is asked
case-moved :
    moved (clock 4 4 2 14 10 12) 0 ∷ moved (clock 4 4 2 14 10 12) 86401 ∷ moved (clock 1 2 29 0 0 0) 86401 ∷ []
    ≡ Ok (clock 4 4 2 14 10 12) ∷ Err TooLong ∷ Err NoClock ∷ []
unfolding moved legal_clock days_in leap thirty between after
case-moved = refl
