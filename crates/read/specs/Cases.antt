-- Lines of papers 01 and 02, and what reading them gives: antt computes each.
-- Assumes nothing.
use Prim.Native.Char.{code}
use Prim.Native.String.{String}
use Rattle.std.specs.Prelude.{◌≡◌, refl, true, false, Ok, Err}
use Rattle.kinds.specs.Bytes.{between}
use Rattle.kinds.specs.declared.Kind.TheVariants.{Ean13}
use Rattle.kinds.specs.declared.Place.TheVariants.{Left, Centre, Right}
use Rattle.kinds.specs.declared.Under.TheVariants.{Nothing, Line}
use Rattle.kinds.specs.Text.{bytes}
use Rattle.classes.specs.Bytes.{run}
use Rattle.grammar.specs.Number.{value_from, number_at, signed_at}
use Rattle.data_field.specs.Field.{text_at, byte_at, letter_at, type_at, kind_from, under_at, under_from}
use Rattle.data_field.specs.Elements.{modifier_at, held_at, stamped_at, element_at, elements_from, elements}
use Rattle.data_field.specs.Data.{total, data_at, limits}
use Rattle.row_fields.specs.Letters.{field_at}
use Rattle.grammar.specs.Forms.{spread, in_order}
use Rattle.heads.specs.Heads.{head_of, head_by, find}
use Rattle.row_fields.specs.Reading.{fields_from}
use Rattle.row_limits.specs.Limits.{meets, field_limits, limits_from}
use Rattle.read.specs.Commands.{read_of, headed, judged}
use Rattle.calendar.specs.Clock.{leap, thirty, days_in}
use Rattle.formats.specs.declared.Format.{Format}
use Rattle.formats.specs.declared.Stamp.{Stamp}
use Rattle.formats.specs.declared.Stamp.TheVariants.{Date, Time}
use Rattle.formats.specs.Formats.{format, unit, new_unit, separator, example, packed, unpacked}
use Rattle.format_field.specs.Reading.{letter, unit_of, date_field, time_field, cut_at, field_at as format_field_at, further_at, format_at, format_field}
use Rattle.grammar.specs.declared.Item.TheVariants.{Counter, Bars, Text, Format as Shown}
use Rattle.grammar.specs.declared.Command.TheVariants.{Item as item, Page, Forms, Clock}
use Rattle.grammar.specs.declared.PageCommand.TheVariants.{Width}
use Rattle.grammar.specs.declared.FormCommand.TheVariants.{Erase as EraseForm}
use Rattle.read.specs.declared.Fault.TheVariants.{Form as form, Limit}

-- "(8) q80: taken; q79: 7"
q80 : read_of 240 (bytes "q80") ≡ Ok (Page (Width (record { m = 80 })))
unfolding read_of headed judged head_of head_by find fields_from field_at limits_from field_limits meets spread in_order number_at byte_at run between value_from
q80 = refl

q79 : read_of 240 (bytes "q79") ≡ Err (Limit 1)
unfolding read_of headed judged head_of head_by find fields_from field_at limits_from field_limits meets spread in_order number_at byte_at run between value_from
q79 = refl

-- "C0,02,+1,"NO"", and minus zero
c0 : read_of 240 (bytes "C0,02,+1,\"NO\"") ≡ Ok (item (Counter (record { n = 0; w = 2; minus = false; step = 1; at = 9; length = 2 })))
unfolding read_of headed judged head_of head_by find fields_from field_at limits_from field_limits meets spread in_order number_at byte_at signed_at text_at run between value_from
c0 = refl

minus-zero : read_of 240 (bytes "C1,9,-00,\"\"") ≡ Ok (item (Counter (record { n = 1; w = 9; minus = false; step = 0; at = 9; length = 0 })))
unfolding read_of headed judged head_of head_by find fields_from field_at limits_from field_limits meets spread in_order number_at byte_at signed_at text_at run between value_from
minus-zero = refl

-- "the line has not the written form" comes first
both : read_of 240 (bytes "LO9999,0,1,1 ") ≡ Err (form 12)
unfolding read_of headed judged head_of head_by find fields_from field_at limits_from field_limits meets spread in_order number_at byte_at run between value_from
both = refl

limit : read_of 240 (bytes "LO9999,0,1,1") ≡ Err (Limit 2)
unfolding read_of headed judged head_of head_by find fields_from field_at limits_from field_limits meets spread in_order number_at byte_at run between value_from
limit = refl

-- the length of a label by the lent rows
rows : read_of 240 (bytes "Q241,0") ≡ Err (Limit 1)
unfolding read_of headed judged head_of head_by find fields_from field_at limits_from field_limits meets spread in_order number_at byte_at run between value_from
rows = refl

-- "wide f 2..10 and above e, else 7"
wide : read_of 240 (bytes "B0,0,0,E30,3,3,50,N,V0L2") ≡ Err (Limit 13)
unfolding read_of headed judged head_of head_by find fields_from field_at limits_from field_limits meets spread in_order number_at byte_at type_at under_at data_at total limits elements elements_from element_at held_at modifier_at run between value_from
wide = refl

bars : read_of 240 (bytes "B0,0,0,E30,2,3,50,N,V0L2")
    ≡ Ok (item (Bars (record { x = 0; y = 0; r = 0; kind = Ean13; e = 2; f = 3; g = 50; under = Nothing; at = 20 })))
unfolding read_of headed judged head_of head_by find fields_from field_at limits_from field_limits meets spread in_order number_at byte_at type_at kind_from under_at under_from data_at total limits elements elements_from element_at held_at modifier_at run between value_from
bars = refl

-- paper 02, §1: "B is to take `B` where 01 takes only `N`, and after it an optional `,C` or `,R`"; `B,C0` is the data `C0`
line : read_of 240 (bytes "B0,0,0,E30,2,3,50,B,C0")
    ≡ Ok (item (Bars (record { x = 0; y = 0; r = 0; kind = Ean13; e = 2; f = 3; g = 50; under = Line Left; at = 20 })))
unfolding read_of headed judged head_of head_by find fields_from field_at limits_from field_limits meets spread in_order number_at byte_at type_at kind_from under_at under_from data_at total limits elements elements_from element_at held_at modifier_at run between value_from
line = refl

centred : read_of 240 (bytes "B0,0,0,E30,2,3,50,B,C,C0")
    ≡ Ok (item (Bars (record { x = 0; y = 0; r = 0; kind = Ean13; e = 2; f = 3; g = 50; under = Line Centre; at = 22 })))
unfolding read_of headed judged head_of head_by find fields_from field_at limits_from field_limits meets spread in_order number_at byte_at type_at kind_from under_at under_from data_at total limits elements elements_from element_at held_at modifier_at run between value_from
centred = refl

right : read_of 240 (bytes "B0,0,0,E30,2,3,50,B,R,V1")
    ≡ Ok (item (Bars (record { x = 0; y = 0; r = 0; kind = Ean13; e = 2; f = 3; g = 50; under = Line Right; at = 22 })))
unfolding read_of headed judged head_of head_by find fields_from field_at limits_from field_limits meets spread in_order number_at byte_at type_at kind_from under_at under_from data_at total limits elements elements_from element_at held_at modifier_at run between value_from
right = refl

-- "letters other than these stay 6": no comma behind the `B`, a place that is none, a place behind `N`, nothing behind the comma
joined : read_of 240 (bytes "B0,0,0,E30,2,3,50,BC,C0") ≡ Err (form 18)
unfolding read_of headed judged head_of head_by find fields_from field_at number_at byte_at type_at under_at data_at total elements elements_from element_at held_at modifier_at run between value_from
joined = refl

other_place : read_of 240 (bytes "B0,0,0,E30,2,3,50,B,L,C0") ≡ Err (form 20)
unfolding read_of headed judged head_of head_by find fields_from field_at number_at byte_at type_at under_at data_at total elements elements_from element_at held_at modifier_at run between value_from
other_place = refl

place-of-none : read_of 240 (bytes "B0,0,0,E30,2,3,50,N,C,C0") ≡ Err (form 20)
unfolding read_of headed judged head_of head_by find fields_from field_at number_at byte_at type_at under_at data_at total elements elements_from element_at held_at modifier_at run between value_from
place-of-none = refl

no-data : read_of 240 (bytes "B0,0,0,E30,2,3,50,B,") ≡ Err (form 20)
unfolding read_of headed judged head_of head_by find fields_from field_at number_at byte_at type_at under_at data_at total elements elements_from element_at held_at modifier_at run between value_from
no-data = refl

-- "`"*"` erases all", and is no name for FS
all-forms : read_of 240 (bytes "FK\"*\"") ≡ Ok (Forms (EraseForm (record { at = 2; length = 1; all = true })))
unfolding read_of headed judged head_of head_by find fields_from field_at limits_from field_limits meets spread in_order byte_at text_at run between value_from
all-forms = refl

star : read_of 240 (bytes "FS\"*\"") ≡ Err (Limit 2)
unfolding read_of headed judged head_of head_by find fields_from field_at limits_from field_limits meets spread in_order byte_at text_at run between value_from
star = refl

-- paper 02, §10: "`TS` with month, day, year 0..99 .. hour, minute, second": the manual's `TS04,2,04,14,10,12`, the last second of 2099, and 29 February 2004
clock : read_of 240 (bytes "TS04,2,04,14,10,12") ≡ Ok (Clock (record { month = 4; day = 2; year = 4; hour = 14; minute = 10; second = 12 }))
unfolding read_of headed judged head_of head_by find fields_from field_at limits_from field_limits meets days_in leap thirty spread in_order number_at byte_at run between value_from
clock = refl

last-second : read_of 240 (bytes "TS12,31,99,23,59,59") ≡ Ok (Clock (record { month = 12; day = 31; year = 99; hour = 23; minute = 59; second = 59 }))
unfolding read_of headed judged head_of head_by find fields_from field_at limits_from field_limits meets days_in leap thirty spread in_order number_at byte_at run between value_from
last-second = refl

leap-day : read_of 240 (bytes "TS2,29,4,0,0,0") ≡ Ok (Clock (record { month = 2; day = 29; year = 4; hour = 0; minute = 0; second = 0 }))
unfolding read_of headed judged head_of head_by find fields_from field_at limits_from field_limits meets days_in leap thirty spread in_order number_at byte_at run between value_from
leap-day = refl

-- "`TD` and `TT` with the manual's formats": the manual's examples; letters of either case, a comma as separator; `TThms` is hour, separator m, second
abbrev Sets : String → Stamp → Format → Type 0
Sets line st f = read_of 240 (bytes line) ≡ Ok (item (Shown (record { stamp = st; format = f })))

date-formats : Sets "TDdd-me-y4" Date (example Date) × Sets "TDY2,Mn" Date (format 1 (code ",") 4 0 0)
unfolding read_of headed judged head_of head_by find fields_from field_at limits_from field_limits meets spread in_order byte_at run between format_field format_at format_field_at further_at cut_at date_field letter unit_of unit new_unit separator example packed unpacked
date-formats = (refl, refl)

time-formats : Sets "TTh:m:s" Time (example Time) × Sets "TThms" Time (format 1 (code "m") 3 0 0) × Sets "TTS" Time (format 3 0 0 0 0)
unfolding read_of headed judged head_of head_by find fields_from field_at limits_from field_limits meets spread in_order byte_at run between format_field format_at format_field_at further_at cut_at time_field letter unit_of unit new_unit separator example packed unpacked
time-formats = (refl, refl, refl)

-- "In data, `TD` and `TT` become elements"
stamps : read_of 240 (bytes "A0,0,0,1,1,N,TD\" \"TT") ≡ Ok (item (Text (record { x = 0; y = 0; r = 0; h = 1; v = 1; reverse = false; at = 13 })))
unfolding read_of headed judged head_of head_by find fields_from field_at limits_from field_limits meets spread in_order number_at byte_at letter_at text_at data_at total limits elements elements_from element_at stamped_at run between value_from
stamps = refl
