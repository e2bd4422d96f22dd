-- Lines that end too soon, each with something that would make it well-formed: antt computes each.
-- Assumes nothing.
use Rattle.std.specs.Prelude.{refl}
use Rattle.kinds.specs.Bytes.{between}
use Rattle.kinds.specs.Text.{bytes}
use Rattle.classes.specs.Bytes.{run}
use Rattle.numbers.specs.Number.{value_from, number_at, signed_at}
use Rattle.fields.specs.Field.{text_at, byte_at, letter_at, type_at, kind_from, under_at, under_from}
use Rattle.elements.specs.Elements.{element_at, stamped_at, elements_from, elements}
use Rattle.data_field.specs.Data.{total, data_at, limits}
use Rattle.reader.specs.Letters.{field_at}
use Rattle.formats.specs.Formats.{unit, new_unit, separator}
use Rattle.format_field.specs.Reading.{letter, unit_of, date_field, time_field, field_at as format_field_at, further_at, format_at, format_field}
use Rattle.grammar.specs.Forms.{spread, in_order}
use Rattle.heads.specs.Heads.{head_of, head_by, find}
use Rattle.row_fields.specs.Reading.{fields_from}
use Rattle.row_limits.specs.Limits.{meets, field_limits, limits_from}
use Rattle.read.specs.Commands.{read_of, headed, judged}
use Rattle.pointing.specs.Soon.{EndsTooSoon}

letters : EndsTooSoon 240 (bytes "L")
unfolding read_of headed judged head_of head_by find fields_from field_at limits_from field_limits meets spread in_order number_at byte_at run between value_from
letters = record { more = bytes "O1,2,3,4"; written = refl }

bar-type : EndsTooSoon 240 (bytes "B0,0,0,E3")
unfolding read_of headed judged head_of head_by find fields_from field_at limits_from field_limits meets spread in_order number_at byte_at type_at kind_from under_at under_from text_at element_at elements_from elements total data_at limits run between value_from
bar-type = record { more = bytes "0,2,4,30,N,\"\""; written = refl }

text : EndsTooSoon 240 (bytes "A0,0,0,1,1,N,\"ab")
unfolding read_of headed judged head_of head_by find fields_from field_at limits_from field_limits meets spread in_order number_at byte_at letter_at text_at element_at elements_from elements total data_at limits run between value_from
text = record { more = bytes "\""; written = refl }

sign : EndsTooSoon 240 (bytes "C0,1,+")
unfolding read_of headed judged head_of head_by find fields_from field_at limits_from field_limits meets spread in_order number_at signed_at byte_at text_at run between value_from
sign = record { more = bytes "1,\"\""; written = refl }

-- paper 02, §10: the date's format cut off within a field, the time's behind a separator, and the element of which the `T` stands there
date-format : EndsTooSoon 240 (bytes "TDdd-m")
unfolding read_of headed judged head_of head_by find fields_from field_at limits_from field_limits meets spread in_order byte_at format_field format_at format_field_at further_at date_field letter unit_of unit new_unit separator between
date-format = record { more = bytes "e"; written = refl }

time-format : EndsTooSoon 240 (bytes "TTs:h:")
unfolding read_of headed judged head_of head_by find fields_from field_at limits_from field_limits meets spread in_order byte_at format_field format_at format_field_at further_at time_field letter unit_of unit new_unit separator between
time-format = record { more = bytes "m"; written = refl }

stamp : EndsTooSoon 240 (bytes "A0,0,0,1,1,N,T")
unfolding read_of headed judged head_of head_by find fields_from field_at limits_from field_limits meets spread in_order number_at byte_at letter_at element_at stamped_at elements_from elements total data_at limits run between value_from
stamp = record { more = bytes "T"; written = refl }
