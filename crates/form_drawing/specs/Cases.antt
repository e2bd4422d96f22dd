-- What a line leaves to the next, computed.
-- Assumes nothing.
use Prim.Native.Char.{code}
use Rattle.std.specs.Prelude.{ℕ, ◌≡◌, refl, List, [], ◌∷◌}
use Rattle.kinds.specs.Bytes.{between}
use Rattle.kinds.specs.Text.{bytes}
use Rattle.classes.specs.Bytes.{run}
use Rattle.numbers.specs.Number.{value_from, number_at}
use Rattle.fields.specs.Field.{text_at, byte_at, letter_at}
use Rattle.formats.specs.Formats.{format, formats_of, examples, unit, new_unit, separator, packed, unpacked}
use Rattle.format_field.specs.Reading.{letter, unit_of, date_field, time_field, cut_at, field_at as spot_at, further_at, format_at, format_field}
use Rattle.heads.specs.Heads.{find, head_by, head_of}
use Rattle.reader.specs.Letters.{field_at}
use Rattle.kept_line.specs.Reading.{fields_from}
use Rattle.grammar.specs.Forms.{spread, in_order}
use Rattle.kept_line.specs.Limits.{meets, field_limits, limits_from}
use Rattle.read.specs.Commands.{judged, headed, read_of}
use Rattle.writing.specs.Writing.{digits, cased, equal}
use Rattle.kept_line.specs.Written.{written_field, written_from, written_of, head_written, is_normal}
use Rattle.declarations.specs.Declarations.{nothing, outside_forms, with_variable, formatted}
use Rattle.carried.specs.Judged.{declares}
use Rattle.kept_line.specs.Held.{item_in}
use Rattle.carried.specs.Carried.{place, carried, starts}
use Rattle.item_drawing.specs.Draw.{Setting, draws_item}
use Rattle.form_drawing.specs.Draw.{drawing, draws_line, draws_lines}

-- what a V declares holds for the lines after it
case-declared : (g : Setting) (page : List ℕ) → (draws_line g (drawing (starts 0 0) page) (bytes "V0,5,L,\"\"")).carried.declared ≡ with_variable nothing 0 5 (code "L")
unfolding draws_line declares with_variable item_in letter_at between run value_from number_at text_at byte_at find head_by head_of field_at fields_from spread meets field_limits limits_from in_order judged headed read_of digits cased written_field written_from written_of head_written equal is_normal
case-declared g page = refl

-- paper 02, §10: "TD and TT may be recorded and then hold for the rest of that label": they draw nothing, leave each its format to the lines after it, and the last one
-- counts
case-formats : (g : Setting) (page : List ℕ) →
    draws_lines g (drawing (starts 0 0) page) (bytes "TDy4" ∷ bytes "TTh:m" ∷ bytes "TDmn/dd" ∷ bytes "R1,2" ∷ [])
    ≡ drawing (carried (outside_forms (formats_of (format 4 (code "/") 5 0 0) (format 1 (code ":") 2 0 0))) (place 1 2)) page
unfolding draws_lines draws_line draws_item nothing declares formatted item_in letter unit_of date_field time_field cut_at spot_at further_at format_at format_field unit new_unit separator packed unpacked letter_at between run value_from number_at text_at byte_at find head_by head_of field_at fields_from spread meets field_limits limits_from in_order judged headed read_of digits cased written_field written_from written_of head_written equal is_normal
case-formats g page = refl

-- "each label starts from the example formats": what a form left is gone with its label
case-next : (x y : ℕ) → (starts x y).declared.formats ≡ examples
unfolding nothing
case-next x y = refl
