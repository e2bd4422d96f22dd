-- Data, and what reading it gives: antt computes each.
-- Assumes nothing.
use Rattle.std.specs.Prelude.{◌≡◌, refl, Ok, Err}
use Rattle.fields.specs.KindsBytes.{between}
use Rattle.fields.specs.Text.{bytes}
use Rattle.fields.specs.Bytes.{run}
use Rattle.fields.specs.Field.{text_at}
use Rattle.elements.specs.Number.{value_from, number_at}
use Rattle.elements.specs.Elements.{modifier_at, held_at, element_at, elements_from, elements}
use Rattle.data_field.specs.Data.{total, data_at, limits}

-- two texts side by side are two elements; `V01` is none, and a limit passed is not the form's fault
two-texts : data_at (bytes "\"a\"\"b\"") 0 ≡ Ok (0, 6)
unfolding data_at total elements elements_from element_at text_at run between
two-texts = refl

two_digits : data_at (bytes "V0V01") 0 ≡ Err 4
unfolding data_at total elements elements_from element_at held_at modifier_at text_at run between
two_digits = refl

too_long : limits (elements (bytes "V0L32C1R33") 0) ≡ Err 5
unfolding limits elements elements_from element_at held_at modifier_at number_at run between value_from
too_long = refl
