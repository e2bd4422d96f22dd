-- Formats, and what is none, computed.
-- Assumes nothing.
use Rattle.std.specs.Prelude.{◌≡◌, refl, true, false, [], ◌∷◌}
use Prim.Native.Char.{code}
use Rattle.kinds.specs.Bytes.{between}
use Rattle.formats.specs.declared.Stamp.TheVariants.{Date, Time}
use Rattle.formats.specs.Formats.{format, unit, new_unit, separator, legal_format, example, formats_of, with_format, examples, legal_formats, packed, unpacked}

-- one, two and three fields, in any order; a digit, a letter and a comma are separators too
case-legal :
    legal_format Date (example Date)
    ∷ legal_format Time (example Time)
    ∷ legal_format Date (format 3 0 0 0 0)
    ∷ legal_format Date (format 4 (code "0") 1 0 0)
    ∷ legal_format Time (format 3 (code ",") 2 (code "h") 1)
    ∷ []
    ≡ true ∷ true ∷ true ∷ true ∷ true ∷ []
unfolding legal_format example unit new_unit separator between
case-legal = refl

-- "each field at most once", in whatever form: the year in two digits and again in four, the month in letters and again in digits, the third as the first
case-again :
    legal_format Date (format 1 (code "-") 2 0 0)
    ∷ legal_format Date (format 3 (code "-") 4 0 0)
    ∷ legal_format Date (format 5 (code "-") 3 (code "-") 5)
    ∷ legal_format Time (format 1 (code ":") 2 (code ":") 2)
    ∷ []
    ≡ false ∷ false ∷ false ∷ false ∷ []
unfolding legal_format unit new_unit separator between
case-again = refl

-- "Separators are neither space nor quote", nor bytes outside 32 to 126
case-separators :
    legal_format Time (format 1 (code " ") 2 0 0)
    ∷ legal_format Time (format 1 (code "\"") 2 0 0)
    ∷ legal_format Time (format 1 127 2 0 0)
    ∷ legal_format Time (format 1 (code "~") 2 0 0)
    ∷ legal_format Time (format 1 (code "!") 2 0 0)
    ∷ []
    ≡ false ∷ false ∷ false ∷ true ∷ true ∷ []
unfolding legal_format unit new_unit separator between
case-separators = refl

-- no field, a separator without a field, a field without a separator, a third field without a second, and numbers that stand for no field
case-none :
    legal_format Date (format 0 0 0 0 0)
    ∷ legal_format Date (format 5 (code "-") 0 0 0)
    ∷ legal_format Date (format 5 0 3 0 0)
    ∷ legal_format Date (format 5 0 0 (code "-") 3)
    ∷ legal_format Date (format 6 0 0 0 0)
    ∷ legal_format Time (format 4 0 0 0 0)
    ∷ []
    ≡ false ∷ false ∷ false ∷ false ∷ false ∷ false ∷ []
unfolding legal_format unit new_unit separator between
case-none = refl

-- a time's format is set, the date's stays
case-with : with_format examples Time (format 1 (code "m") 3 0 0) ≡ formats_of (format 5 (code "-") 3 (code "-") 2) (format 1 (code "m") 3 0 0)
unfolding example
case-with = refl

-- a date's format is none of the time
case-both : legal_formats examples ∷ legal_formats (formats_of (example Date) (example Date)) ∷ legal_formats (formats_of (format 0 0 0 0 0) (example Time)) ∷ [] ≡ true ∷ false ∷ false ∷ []
unfolding legal_format example unit new_unit separator between
case-both = refl

-- the time's example, packed and got back; a lone field is its own number
case-packed : packed (format 1 0 0 0 0) ∷ packed (format 1 2 0 0 0) ∷ [] ≡ 1 ∷ 513 ∷ []
unfolding packed
case-packed = refl

case-unpacked : unpacked (packed (example Time)) ∷ unpacked (packed (example Date)) ∷ [] ≡ example Time ∷ example Date ∷ []
unfolding packed unpacked example
case-unpacked = refl
