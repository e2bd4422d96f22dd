-- The machine's clock as the station's: "moved by .. the seconds passed" (paper 02, §10), from 1 January 2000 on.
-- Assumes nothing.
use Rattle.std.specs.Prelude.{ℕ, ◌+◌, ◌-◌, ◌*◌, min, cond, Result, Ok, Err}
use Rattle.calendar.specs.declared.Clock.{Clock}
use Rattle.calendar.specs.declared.Unmoved.{Unmoved}
use Rattle.calendar.specs.Clock.{legal_clock, fresh, after}
use Rattle.numbers.specs.Number.{nought}

-- a hundred years, within which any clock comes to its end
abbrev pub hundred_years : ℕ
hundred_years = 3155760000

-- the seconds since 1 January 2000 of those since 1970 in UTC, in a zone: so many minutes ahead of UTC, counted from -1,000,000,000 as a number with a sign is.
-- Before 2000 they are none
abbrev pub since_start : ℕ → ℕ → ℕ
since_start seconds zone = min seconds 8000000000 + 60 * min zone (2 * nought) - (946684800 + 60 * nought)

-- where the clock call would refuse, the clock stays
abbrev pub or_same : Clock → Result Clock Unmoved → Clock
or_same c (Ok next) = next
or_same c (Err refusal) = c

-- a clock after any number of seconds
unfoldable pub advanced : Clock → ℕ → Clock
advanced c seconds = cond (legal_clock c) (after c (min seconds hundred_years)) c

-- the date and the time of a machine's seconds in a zone
abbrev pub today : ℕ → ℕ → Clock
today seconds zone = advanced fresh (since_start seconds zone)
