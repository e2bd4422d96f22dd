-- Paper 02, §2, and §10 for the clock's lines: what a refusal points to, sentence by sentence, with lines that show it: antt computes each.
-- Assumes nothing.
use Rattle.std.specs.Prelude.{ℕ, ◌≡◌, refl, ◌∷◌, ◌++◌, Err}
use Prim.Native.String.{String}
use Rattle.kinds.specs.Bytes.{between}
use Rattle.kinds.specs.Text.{bytes}
use Rattle.classes.specs.Bytes.{run}
use Rattle.grammar.specs.Number.{value_from, number_at, signed_at}
use Rattle.data_field.specs.Field.{text_at, byte_at, letter_at, type_at, under_at}
use Rattle.data_field.specs.Elements.{modifier_at, held_at, stamped_at, element_at, elements_from, elements}
use Rattle.data_field.specs.Data.{total, data_at, limits}
use Rattle.row_fields.specs.Letters.{field_at}
use Rattle.calendar.specs.Clock.{leap, thirty, days_in}
use Rattle.formats.specs.Formats.{unit, new_unit, separator, packed}
use Rattle.format_field.specs.Reading.{letter, unit_of, date_field, time_field, cut_at, field_at as format_field_at, further_at, format_at, format_field}
use Rattle.grammar.specs.Forms.{spread, in_order}
use Rattle.heads.specs.Heads.{head_of, head_by, find, letters_fault}
use Rattle.row_fields.specs.Reading.{fields_from}
use Rattle.row_limits.specs.Limits.{meets, field_limits, limits_from}
use Rattle.read.specs.Commands.{read_of, headed, judged}
use Rattle.read.specs.declared.Fault.TheVariants.{Form as form, Limit}

-- a line that is answered by 6 with a place, and by 7 with a place
abbrev Unformed : String → ℕ → Type 0
Unformed line place = read_of 240 (bytes line) ≡ Err (form place)

abbrev Outside : String → ℕ → Type 0
Outside line place = read_of 240 (bytes line) ≡ Err (Limit place)

-- the command's letters are the longest that match; where none do, the first byte is at fault
letters : Unformed "LX" 0 × Unformed "1" 0 × Unformed "lo1,2,3,4" 0
unfolding read_of headed head_of head_by find letters_fault
letters = (refl, refl, refl)

-- a number is its run of digits: where there are none, or more than nine, its first byte is at fault, or where it should start
numbers : Unformed "LO1234567890,1,1,1" 2 × Unformed "LO1,,3,4" 4 × Unformed "LOx" 2
unfolding read_of headed judged head_of head_by find fields_from field_at number_at byte_at run between value_from
numbers = (refl, refl, refl)

-- a comma must follow a number: where it does not, the byte that stands there is at fault
commas : Unformed "LO1x2,3,4" 3 × Unformed "LO1 ,2,3,4" 3
unfolding read_of headed judged head_of head_by find fields_from field_at number_at byte_at run between value_from
commas = (refl, refl)

-- a word runs to the next comma: `3C` points to the 3, `NN` to the first N, `BC` to the B
words : Unformed "B0,0,0,3C,2,3,50,N,\"A\"" 7 × Unformed "B0,0,0,E3,2,3,50,N,\"A\"" 7 × Unformed "B0,0,0,3,2,3,50,BC,C0" 16 × Unformed "A0,0,0,1,1,NN,\"a\"" 11 × Unformed "V0,5,LL,\"\"" 5
unfolding read_of headed judged head_of head_by find fields_from field_at number_at byte_at letter_at type_at under_at run between value_from
words = (refl, refl, refl, refl, refl)

-- a quoted text runs through its second quote: a bad byte inside points to the first
texts : read_of 240 (bytes "FS\"A" ++ (7 ∷ bytes "B\"")) ≡ Err (form 2)
unfolding read_of headed judged head_of head_by find fields_from field_at byte_at text_at run between
texts = refl

-- an element of data is one piece with its modifier
elements-whole : Unformed "A0,0,0,1,1,N,V0Lx" 13 × Unformed "A0,0,0,1,1,N,V0M1,1" 13 × Unformed "A0,0,0,1,1,N,Vx" 13
unfolding read_of headed judged head_of head_by find fields_from field_at number_at byte_at letter_at data_at total elements elements_from element_at held_at modifier_at run between value_from
elements-whole = (refl, refl, refl)

-- bytes where an element should start point to themselves
elements-none : Unformed "A0,0,0,1,1,N,V0x" 15 × Unformed "A0,0,0,1,1,N,\"a\",\"b\"" 16
unfolding read_of headed judged head_of head_by find fields_from field_at number_at byte_at letter_at text_at data_at total elements elements_from element_at held_at modifier_at run between value_from
elements-none = (refl, refl)

-- a number is one piece with its sign
signs : Unformed "C0,1,+x" 5 × Unformed "C0,1,-1234567890,\"\"" 5
unfolding read_of headed judged head_of head_by find fields_from field_at number_at byte_at signed_at run between value_from
signs = (refl, refl)

-- `TD` and `TT` are such elements too; they take no modifier, so that a byte behind them starts another
stamps : Unformed "A0,0,0,1,1,N,Tx" 13 × Unformed "A0,0,0,1,1,N,td" 13 × Unformed "A0,0,0,1,1,N,TDL2" 15 × Unformed "A0,0,0,1,1,N,T" 14
unfolding read_of headed judged head_of head_by find fields_from field_at number_at byte_at letter_at data_at total elements elements_from element_at stamped_at run between value_from
stamps = (refl, refl, refl, refl)

-- a format's field or separator at fault points to itself, a field that comes again too, and what stands behind the third field
formats : Unformed "TDdd me" 4 × Unformed "TDdd\"mn" 4 × Unformed "TDy3" 2 × Unformed "TDy2-y4" 5 × Unformed "TDdd-d" 5 × Unformed "TDdd-mn-y2-" 10 × Unformed "TTx" 2 × Unformed "TTh:m:h" 6
unfolding read_of headed judged head_of head_by find fields_from field_at byte_at run format_field format_at format_field_at further_at cut_at date_field time_field letter unit_of unit new_unit separator between packed
formats = (refl, refl, refl, refl, refl, refl, refl, refl)

-- a format that ends too soon
formats-short : Unformed "T" 1 × Unformed "TD" 2 × Unformed "TDd" 3 × Unformed "TDdd-" 5 × Unformed "TDdd-m" 6 × Unformed "TT" 2 × Unformed "TTh:m:" 6
unfolding read_of headed judged head_of head_by find letters_fault fields_from field_at byte_at run format_field format_at format_field_at further_at cut_at date_field time_field letter unit_of unit new_unit separator between packed
formats-short = (refl, refl, refl, refl, refl, refl, refl)

-- a line that ends too soon, as some line of the written form starts with it, points to its LF
too-soon : Unformed "L" 1 × Unformed "LO1,2" 5 × Unformed "B0,0,0,E3" 9 × Unformed "B0,0,0,3,2,3,50,B,R" 19 × Unformed "A0,0,0,1,1,N,\"ab" 16 × Unformed "A0,0,0,1,1,N,V0M1." 18 × Unformed "C0,1,+" 6
unfolding read_of headed judged head_of head_by find letters_fault fields_from field_at number_at byte_at letter_at type_at under_at text_at signed_at data_at total elements elements_from element_at held_at modifier_at run between value_from
too-soon = (refl, refl, refl, refl, refl, refl, refl)

-- "bytes past the last field count as one": the first of them, a comma too
past-last : Unformed "LO1,2,3,4,5" 9 × Unformed "LO1,2,3,4x" 9 × Unformed "N " 1
unfolding read_of headed judged head_of head_by find fields_from field_at number_at byte_at run between value_from
past-last = (refl, refl, refl)

-- ---- 7: the leftmost field or element outside its limits

-- a number; of several the leftmost
limits-leftmost : Outside "LO9999,9999,1,1" 2 × Outside "LO1,9999,0,0" 4
unfolding read_of headed judged head_of head_by find fields_from field_at limits_from field_limits meets spread in_order number_at byte_at run between value_from
limits-leftmost = (refl, refl)

-- names and prompts point to their first quote
limits-quote : Outside "FS\"ABCDEFGHI\"" 2 × Outside "V0,5,L,\"1234567890123456789012345\"" 7
unfolding read_of headed judged head_of head_by find fields_from field_at limits_from field_limits meets spread in_order number_at byte_at letter_at text_at run between value_from
limits-quote = (refl, refl)

-- f not above e points to f
limits-wide : Outside "B0,0,0,3,3,3,50,N,\"A\"" 11
unfolding read_of headed judged head_of head_by find fields_from field_at limits_from field_limits meets spread in_order number_at byte_at type_at under_at text_at data_at total limits elements elements_from element_at run between value_from
limits-wide = refl

-- a step points to its sign
limits-sign : Outside "C0,1,-100000,\"\"" 5
unfolding read_of headed judged head_of head_by find fields_from field_at limits_from field_limits meets spread in_order number_at byte_at signed_at text_at run between value_from
limits-sign = refl

-- a modifier points to its element
limits-modifier : Outside "A0,0,0,1,1,N,\"a\"V0L33" 16
unfolding read_of headed judged head_of head_by find fields_from field_at limits_from field_limits meets spread in_order number_at byte_at letter_at text_at data_at total limits elements elements_from element_at held_at modifier_at run between value_from
limits-modifier = refl

-- a day that its month has not, in that year, points to itself, whatever stands behind the year; where the month or the year is itself outside, that one is at fault
limits-day : Outside "TS2,30,4,0,0,0" 4 × Outside "TS2,29,3,0,0,0" 4 × Outside "TS4,31,4,0,0,0" 4 × Outside "TS2,30,4,25,0,0" 4 × Outside "TS13,31,4,0,0,0" 2 × Outside "TS2,30,100,0,0,0" 7 × Outside "TS2,32,100,0,0,0" 4
unfolding read_of headed judged head_of head_by find fields_from field_at limits_from field_limits meets days_in leap thirty spread in_order number_at byte_at run between value_from
limits-day = (refl, refl, refl, refl, refl, refl, refl)

-- the clock's other numbers
limits-clock : Outside "TS0,1,4,0,0,0" 2 × Outside "TS1,0,4,0,0,0" 4 × Outside "TS1,1,4,24,0,0" 8 × Outside "TS1,1,4,0,60,0" 10 × Outside "TS1,1,4,0,0,60" 12
unfolding read_of headed judged head_of head_by find fields_from field_at limits_from field_limits meets days_in leap thirty spread in_order number_at byte_at run between value_from
limits-clock = (refl, refl, refl, refl, refl)
