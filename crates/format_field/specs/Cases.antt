-- Formats after `TD` and `TT`, and the places of faults, computed.
-- Assumes nothing.
use Prim.Native.String.{String}
use Prim.Native.Char.{code}
use Rattle.std.specs.Prelude.{ℕ, ◌≡◌, refl, [], ◌∷◌, Result, Ok, Err}
use Rattle.formats.specs.Bytes.{between}
use Rattle.formats.specs.Text.{bytes}
use Rattle.formats.specs.declared.Format.{Format}
use Rattle.formats.specs.declared.Stamp.TheVariants.{Date, Time}
use Rattle.formats.specs.Formats.{format, unit, new_unit, separator, example, packed}
use Rattle.format_field.specs.Reading.{letter, unit_of, date_field, time_field, cut_at, field_at, further_at, format_at, format_field}

date : String → Result Format ℕ
date text = format_at Date (bytes text) 2

time : String → Result Format ℕ
time text = format_at Time (bytes text) 2

-- "`TDdd-me-y4`"; letters of either case; one field; a letter and a digit are separators too
case-date :
    date "TDdd-me-y4" ∷ date "TDDD" ∷ date "TDy4dmn" ∷ date "TDdd2mN1Y2" ∷ []
    ≡ Ok (example Date) ∷ Ok (format 5 0 0 0 0) ∷ Ok (format 2 (code "d") 4 0 0) ∷ Ok (format 5 (code "2") 4 (code "1") 1) ∷ []
unfolding date format_at field_at further_at cut_at date_field letter unit_of unit new_unit separator between example
case-date = refl

-- the year again, which points to itself; a space, a quote; what is no field; bytes past the third field
case-date-fault :
    date "TDy2-y4" ∷ date "TDdd-mn-dd" ∷ date "TDdd me" ∷ date "TDdd\"mn" ∷ date "TDxx" ∷ date "TDy3" ∷ date "TDdd-mn-y2-" ∷ []
    ≡ Err 5 ∷ Err 8 ∷ Err 4 ∷ Err 4 ∷ Err 2 ∷ Err 2 ∷ Err 10 ∷ []
unfolding date format_at field_at further_at cut_at date_field letter unit_of unit new_unit separator between
case-date-fault = refl

-- a line that ends too soon is at fault at its LF, but not where no field that is left begins so
case-date-short :
    date "TD" ∷ date "TDd" ∷ date "TDdd-m" ∷ date "TDdd-" ∷ date "TDx" ∷ date "TDdd-d" ∷ date "TDy2-y" ∷ []
    ≡ Err 2 ∷ Err 3 ∷ Err 6 ∷ Err 5 ∷ Err 2 ∷ Err 5 ∷ Err 5 ∷ []
unfolding date format_at field_at further_at cut_at date_field letter unit_of unit new_unit separator between
case-date-short = refl

-- "`TTh:m:s`"; `TThms` is hour, separator m, second
case-time :
    time "TTh:m:s" ∷ time "TThms" ∷ time "TTs,M1h" ∷ []
    ≡ Ok (example Time) ∷ Ok (format 1 (code "m") 3 0 0) ∷ Ok (format 3 (code ",") 2 (code "1") 1) ∷ []
unfolding time format_at field_at further_at cut_at time_field letter unit_of unit new_unit separator between example
case-time = refl

case-time-fault :
    time "TT" ∷ time "TTx" ∷ time "TTh:h" ∷ time "TTh:" ∷ time "TTh " ∷ time "TTh:m:s:" ∷ []
    ≡ Err 2 ∷ Err 2 ∷ Err 4 ∷ Err 4 ∷ Err 3 ∷ Err 7 ∷ []
unfolding time format_at field_at further_at cut_at time_field letter unit_of unit new_unit separator between
case-time-fault = refl

-- as a field: to the end of the line, or not at all
case-field :
    format_field Time (bytes "TTh:m:s") 2 ∷ format_field Time (bytes "TTh:m:") 2 ∷ []
    ≡ Ok (packed (format 1 (code ":") 2 (code ":") 3), 7) ∷ Err 6 ∷ []
unfolding format_field format_at field_at further_at cut_at time_field letter unit_of unit new_unit separator between packed
case-field = refl
