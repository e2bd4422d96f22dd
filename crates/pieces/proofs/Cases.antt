-- The paper's own data, computed.
-- Assumes nothing.
use Prim.Native.Char.{code}
use Rattle.std.specs.Prelude.{◌≡◌, refl, true, false}
use Rattle.kinds.specs.Bytes.{between}
use Rattle.kinds.specs.Text.{bytes}
use Rattle.classes.specs.Bytes.{run}
use Rattle.elements.specs.Number.{value_from, number_at}
use Rattle.fields.specs.Field.{text_at, byte_at}
use Rattle.calendar.specs.declared.Clock.{Clock}
use Rattle.calendar.specs.Clock.{clock}
use Rattle.formats.specs.declared.Stamp.TheVariants.{Date, Time}
use Rattle.formats.specs.Formats.{format, example}
use Rattle.stamps.specs.Texts.{two_digits, months, month_name, date_shown, time_shown, marked, stamp_text}
use Rattle.elements.specs.Elements.{modifier_at, held_at, stamped_at, element_at, elements_from, elements}
use Rattle.elements.specs.declared.Part.TheVariants.{Middle}
use Rattle.declarations.specs.declared.Declared.{Declared}
use Rattle.declarations.specs.Declarations.{nothing, with_variable, with_counter, formatted}
use Rattle.counters.specs.Counters.{digits}
use Rattle.pieces.specs.Data.{part_of, piece_of, Values, data_of}

-- V0 of length 5, left justified, and C0 of two digits, step +1
declared : Declared
declared = with_counter (with_variable nothing 0 5 (code "L")) 0 2 false 1

-- the manual's 2 April 2004, 14:10:12
april : Clock
april = clock 4 4 2 14 10 12

abcde : Values
abcde = record { variable = λ k. bytes "ABCDE"; counter = λ k. 7; clock = april }

-- (7) "V0, m 5, = `ABCDE`: `V0L1V0M3.2V0R1` gives `ACDE`"
case-7 : data_of (bytes "V0L1V0M3.2V0R1") 0 declared abcde ≡ bytes "ACDE"
unfolding abcde part_of piece_of between run value_from number_at text_at byte_at modifier_at held_at element_at elements_from elements
case-7 = refl

-- a counter is its w digits, and quoted text stands as it is, from any place of a line on
case-text : data_of (bytes "A\"No \"C0\"!\"") 1 declared abcde ≡ bytes "No 07!"
unfolding declared with_counter with_variable nothing abcde part_of piece_of digits between run value_from number_at text_at byte_at modifier_at held_at element_at elements_from elements
case-text = refl

-- on a short value a modifier takes what exists
case-short : part_of (Middle 3 4) (bytes "ABCD") ≡ bytes "CD"
unfolding part_of
case-short = refl

-- paper 02, §10: "In data, `TD` and `TT` become elements"; "the formats are the manual's example formats"
case-stamps : data_of (bytes "\"Date: \"TD\"   Time: \"TT") 0 nothing abcde ≡ bytes "Date: 02-APR-2004   Time: 14:10:12"
unfolding nothing abcde april part_of piece_of between run text_at element_at stamped_at elements_from elements example stamp_text date_shown time_shown marked two_digits month_name months
case-stamps = refl

-- in the formats declared, whole, beside other elements
case-formats : data_of (bytes "C0TDTTV0L1") 0 (formatted (formatted declared Date (format 4 (code "/") 5 0 0)) Time (format 1 (code "m") 3 0 0)) abcde ≡ bytes "0704/0214m12A"
unfolding declared formatted with_counter with_variable nothing abcde april part_of piece_of digits between run value_from number_at text_at byte_at modifier_at held_at element_at stamped_at elements_from elements stamp_text date_shown time_shown marked two_digits
case-formats = refl
