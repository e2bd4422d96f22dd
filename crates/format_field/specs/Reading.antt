-- Paper 02, §10: a format as it is written, from a place of a line to its end, "field letters may be of either case"; §2: the place of a fault.
-- Assumes nothing.
use Rattle.std.specs.Prelude.{ℕ, ◌+◌, Bool, cond, ◌||◌, List, length, get_or, leb, eqb, Result, Ok, Err}
use Prim.Native.Char.{code}
use Rattle.formats.specs.declared.Format.{Format}
use Rattle.formats.specs.declared.Stamp.{Stamp}
use Rattle.formats.specs.declared.Stamp.TheVariants.{Date, Time}
use Rattle.formats.specs.Formats.{format, unit, new_unit, separator, packed}

-- ---- one field

-- "field letters may be of either case": a letter, by its capital
unfoldable pub letter : ℕ → ℕ → Bool
letter k b = eqb b k || eqb b (k + 32)

-- Y: the year; M: the month; D: the day
unfoldable pub unit_of : ℕ → ℕ
unit_of a = cond (letter (code "Y") a) 1 (cond (letter (code "M") a) 2 (cond (letter (code "D") a) 3 0))

-- Y2, Y4; ME, MN; DD, by the second byte; 0 is none of them
abbrev pub year_field : ℕ → ℕ
year_field b = cond (eqb b (code "2")) 1 (cond (eqb b (code "4")) 2 0)

abbrev pub month_field : ℕ → ℕ
month_field b = cond (letter (code "E") b) 3 (cond (letter (code "N") b) 4 0)

abbrev pub day_field : ℕ → ℕ
day_field b = cond (letter (code "D") b) 5 0

unfoldable pub date_field : ℕ → ℕ → ℕ
date_field a b = cond (letter (code "Y") a) (year_field b) (cond (letter (code "M") a) (month_field b) (cond (letter (code "D") a) (day_field b) 0))

-- H, M, S
unfoldable pub time_field : ℕ → ℕ
time_field a = cond (letter (code "H") a) 1 (cond (letter (code "M") a) 2 (cond (letter (code "S") a) 3 0))

-- a date's field is two bytes, a time's one
abbrev pub width : Stamp → ℕ
width Date = 2
width Time = 1

abbrev pub field_of : Stamp → ℕ → ℕ → ℕ
field_of Date a b = date_field a b
field_of Time a b = time_field a

-- the place at fault where the line ends within a field: its LF if a field of another unit than u and v may begin so
unfoldable pub cut_at : List ℕ → ℕ → ℕ → ℕ → ℕ
cut_at s u v at = cond (new_unit u v (unit_of (get_or s at 0))) (length s) at

abbrev pub spot_of : Stamp → ℕ → ℕ → ℕ → ℕ → Result (ℕ × ℕ) ℕ
spot_of st u v at x = cond (new_unit u v (unit st x)) (Ok (x, at + width st)) (Err at)

-- a field of another unit than u and v, and the place after it; or the place at fault
unfoldable pub field_at : Stamp → List ℕ → ℕ → ℕ → ℕ → Result (ℕ × ℕ) ℕ
field_at st s u v at =
    cond (leb (at + width st) (length s)) (spot_of st u v at (field_of st (get_or s at 0) (get_or s (at + 1) 0))) (Err (cut_at s u v at))

-- the same after a separator
unfoldable pub further_at : Stamp → List ℕ → ℕ → ℕ → ℕ → Result (ℕ × ℕ) ℕ
further_at st s u v at = cond (separator (get_or s at 0)) (field_at st s u v (at + 1)) (Err at)

-- ---- the format

abbrev pub with_third : List ℕ → ℕ → ℕ → ℕ → ℕ → Result (ℕ × ℕ) ℕ → Result Format ℕ
with_third s a d b e (Ok (c, n)) = cond (leb (length s) n) (Ok (format a (get_or s d 0) b (get_or s e 0) c)) (Err n)
with_third s a d b e (Err p) = Err p

abbrev pub with_second : Stamp → List ℕ → ℕ → ℕ → Result (ℕ × ℕ) ℕ → Result Format ℕ
with_second st s a d (Ok (b, e)) =
    cond (leb (length s) e) (Ok (format a (get_or s d 0) b 0 0)) (with_third s a d b e (further_at st s (unit st a) (unit st b) e))
with_second st s a d (Err p) = Err p

abbrev pub with_first : Stamp → List ℕ → Result (ℕ × ℕ) ℕ → Result Format ℕ
with_first st s (Ok (a, d)) = cond (leb (length s) d) (Ok (format a 0 0 0 0)) (with_second st s a d (further_at st s (unit st a) 0 d))
with_first st s (Err p) = Err p

-- "one to three fields", "one separator byte between fields": the format from a place to the end of the line, or the place at fault
unfoldable pub format_at : Stamp → List ℕ → ℕ → Result Format ℕ
format_at st s at = with_first st s (field_at st s 0 0 at)

-- ---- as a field of a line: its value is the format as one number, and it ends with the line

abbrev pub field_from : List ℕ → Result Format ℕ → Result (ℕ × ℕ) ℕ
field_from s (Ok f) = Ok (packed f, length s)
field_from s (Err p) = Err p

unfoldable pub format_field : Stamp → List ℕ → ℕ → Result (ℕ × ℕ) ℕ
format_field st s at = field_from s (format_at st s at)
