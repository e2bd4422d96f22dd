-- The seconds of a day, counted from midnight: for the code alone, which moves the clock at once.
-- Assumes nothing.
use Rattle.std.specs.Prelude.{ℕ, ◌+◌, ◌*◌, ◌/◌, ◌%◌}
use Rattle.calendar.specs.declared.Clock.{Clock}
use Rattle.calendar.specs.Clock.{clock}

abbrev pub time_of : Clock → ℕ
time_of c = c.hour * 3600 + c.minute * 60 + c.second

-- the same day, t seconds after midnight
abbrev pub at_time : Clock → ℕ → Clock
at_time c t = clock c.year c.month c.day (t / 60 / 60 % 24) (t / 60 % 60) (t % 60)
