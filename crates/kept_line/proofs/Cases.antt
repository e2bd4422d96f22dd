-- What stored lines hold, computed.
-- Assumes nothing.
use Rattle.std.proofs.Common.{Some, None}
use Prim.Native.Char.{code}
use Rattle.std.specs.Prelude.{◌≡◌, refl, [], ◌∷◌}
use Rattle.kinds.specs.Bytes.{between}
use Rattle.kinds.specs.Text.{bytes}
use Rattle.classes.specs.Bytes.{run}
use Rattle.writing.specs.Number.{value_from, number_at}
use Rattle.fields.specs.Field.{text_at, byte_at}
use Rattle.calendar.specs.Clock.{leap, days_in}
use Rattle.formats.specs.declared.Stamp.TheVariants.{Date, Time}
use Rattle.formats.specs.Formats.{format, unit, new_unit, separator, packed, unpacked}
use Rattle.format_field.specs.Reading.{letter, unit_of, date_field, time_field, cut_at, field_at as spot_at, further_at, format_at, format_field}
use Rattle.heads.specs.Heads.{find, head_by, head_of}
use Rattle.row_fields.specs.Letters.{field_at}
use Rattle.row_fields.specs.Reading.{fields_from}
use Rattle.grammar.specs.Forms.{spread, in_order}
use Rattle.row_limits.specs.Limits.{meets, field_limits, limits_from}
use Rattle.normal.specs.Commands.{judged, headed, read_of}
use Rattle.writing.specs.Writing.{digits, cased, equal}
use Rattle.normal.specs.Written.{written_field, written_from, written_of, head_written, is_normal}
use Rattle.grammar.specs.declared.Item.TheVariants.{Origin, Format}
use Rattle.kept_line.specs.Held.{item_in}

-- an origin; the same with a leading zero, which is not normal; a command that has no place in a form
case-holds :
    item_in (bytes "R1,2") ∷ item_in (bytes "R01,2") ∷ item_in (bytes "FE") ∷ []
    ≡ Some (Origin (record { x = 1; y = 2 })) ∷ None ∷ None ∷ []
unfolding item_in between run value_from number_at text_at byte_at find head_by head_of field_at fields_from spread meets field_limits limits_from in_order judged headed read_of digits cased written_field written_from written_of head_written equal is_normal
case-holds = refl

-- formats of either case, which stay as they were written; a field that comes again; the clock, which has no place in a form
case-formats :
    item_in (bytes "TDDd-me-Y4") ∷ item_in (bytes "TTh:m") ∷ item_in (bytes "TTh:h") ∷ item_in (bytes "TS2,29,4,0,0,0") ∷ []
    ≡ Some (Format (record { stamp = Date; format = format 5 (code "-") 3 (code "-") 2 }))
    ∷ Some (Format (record { stamp = Time; format = format 1 (code ":") 2 0 0 }))
    ∷ None
    ∷ None
    ∷ []
unfolding item_in between run value_from number_at text_at byte_at find head_by head_of letter unit_of date_field time_field cut_at spot_at further_at format_at format_field unit new_unit separator packed unpacked field_at fields_from spread leap days_in meets field_limits limits_from in_order judged headed read_of digits cased written_field written_from written_of head_written equal is_normal
case-formats = refl
