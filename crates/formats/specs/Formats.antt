-- Paper 02, §10: "`TD` and `TT` with the manual's formats, each field at most once, one separator byte between fields, one to three fields".
-- Assumes nothing.
use Rattle.std.specs.Prelude.{ℕ, ◌+◌, ◌*◌, ◌/◌, ◌%◌, Bool, cond, ◌&&◌, ◌||◌, not, eqb}
use Prim.Native.Char.{code}
use Rattle.kinds.specs.Bytes.{between}
use Rattle.formats.specs.declared.Format.{Format}
use Rattle.formats.specs.declared.Formats.{Formats}
use Rattle.formats.specs.declared.Stamp.{Stamp}
use Rattle.formats.specs.declared.Stamp.TheVariants.{Date, Time}

-- a field, and up to twice a separator and a field (the manual's AxByC); 0 where none stands
abbrev pub format : ℕ → ℕ → ℕ → ℕ → ℕ → Format
format a x b y c = record { first = a; mark1 = x; second = b; mark2 = y; third = c }

-- The fields of a date are 1 Y2, 2 Y4 (the year), 3 ME, 4 MN (the month), 5 DD (the day), those of a time 1 H, 2 M, 3 S.
-- What a field shows: 1 year or hour, 2 month or minute, 3 day or second; 0 is no field
unfoldable pub unit : Stamp → ℕ → ℕ
unit Date x = cond (between 1 2 x) 1 (cond (between 3 4 x) 2 (cond (eqb x 5) 3 0))
unit Time x = cond (between 1 3 x) x 0

-- "each field at most once": a unit that is neither u nor v, which stand before it (0 where none does)
unfoldable pub new_unit : ℕ → ℕ → ℕ → Bool
new_unit u v n = not (eqb n 0) && (not (eqb n u) && not (eqb n v))

-- "Separators are neither space nor quote": any other byte of 32 to 126
unfoldable pub separator : ℕ → Bool
separator b = between (code "!") (code "~") b && not (eqb b (code "\""))

-- no separator and no field; a separator and a field after those of units u and v
abbrev pub absent : ℕ → ℕ → Bool
absent m x = eqb m 0 && eqb x 0

abbrev pub further : Stamp → ℕ → ℕ → ℕ → ℕ → Bool
further st u v m x = separator m && new_unit u v (unit st x)

-- one field; two; three
unfoldable pub legal_format : Stamp → Format → Bool
legal_format st f =
    new_unit 0 0 (unit st f.first)
    && (absent f.mark1 f.second && absent f.mark2 f.third
    || further st (unit st f.first) 0 f.mark1 f.second
    && (absent f.mark2 f.third || further st (unit st f.first) (unit st f.second) f.mark2 f.third))

-- "the formats are the manual's example formats": `dd-me-y4` and `h:m:s`
unfoldable pub example : Stamp → Format
example Date = format 5 (code "-") 3 (code "-") 2
example Time = format 1 (code ":") 2 (code ":") 3

-- ---- the formats in force

abbrev pub formats_of : Format → Format → Formats
formats_of d t = record { date = d; time = t }

-- the date's, or the time's
abbrev pub format_of : Formats → Stamp → Format
format_of fs Date = fs.date
format_of fs Time = fs.time

-- one of them is set, the other stays
abbrev pub with_format : Formats → Stamp → Format → Formats
with_format fs Date f = formats_of f fs.time
with_format fs Time f = formats_of fs.date f

-- "the formats are the manual's example formats"
abbrev pub examples : Formats
examples = formats_of (example Date) (example Time)

-- "Sound covers clock and formats": both are formats
abbrev pub legal_formats : Formats → Bool
legal_formats fs = legal_format Date fs.date && legal_format Time fs.time

-- ---- as one number

-- A field of a line has one number for its value. So that the format that stands in a line of TD or TT is such a value, like any other field's, it is carried as
-- one number: its five numbers as digits of base 256, the first lowest. The numbers of a legal format are below 256, and it is got back (proofs/Packing.antt)
unfoldable pub packed : Format → ℕ
packed f = f.first + 256 * (f.mark1 + 256 * (f.second + 256 * (f.mark2 + 256 * f.third)))

unfoldable pub unpacked : ℕ → Format
unpacked v = format (v % 256) (v / 256 % 256) (v / 256 / 256 % 256) (v / 256 / 256 / 256 % 256) (v / 256 / 256 / 256 / 256 % 256)
