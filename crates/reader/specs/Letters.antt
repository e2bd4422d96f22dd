-- The letters in which the grammar writes a command, and the field that each stands for.
-- Assumes nothing.
use Rattle.std.specs.Prelude.{ℕ, cond, ◌||◌, List, eqb, Result}
use Prim.Native.Char.{code}
use Rattle.numbers.specs.Number.{number_at, signed_at}
use Rattle.fields.specs.Field.{text_at, byte_at, letter_at, type_at, under_at}
use Rattle.data_field.specs.Data.{data_at}
use Rattle.classes.specs.declared.Class.TheVariants.{Mode, Side}
use Rattle.formats.specs.declared.Stamp.TheVariants.{Date, Time}
use Rattle.format_field.specs.Reading.{format_field}

-- n, w and y stand for a number, t, a, z and u for a quoted text, s for a number with or without sign, m and j for one letter (mode,
-- justification), k for a bar type, h for what stands under bars, d for data, f and g for the format of the date and of the time; any other byte
-- stands for itself. A letter for a piece that may be absent would answer a field that ends where it starts
unfoldable pub field_at : ℕ → List ℕ → ℕ → Result (ℕ × ℕ) ℕ
field_at f s at =
    cond (eqb f (code "n") || (eqb f (code "w") || eqb f (code "y"))) (number_at s at)
    (cond (eqb f (code "t") || (eqb f (code "a") || (eqb f (code "z") || eqb f (code "u")))) (text_at s at)
    (cond (eqb f (code "s")) (signed_at s at)
    (cond (eqb f (code "m")) (letter_at Mode s at)
    (cond (eqb f (code "j")) (letter_at Side s at)
    (cond (eqb f (code "k")) (type_at s at)
    (cond (eqb f (code "h")) (under_at s at)
    (cond (eqb f (code "d")) (data_at s at)
    (cond (eqb f (code "f")) (format_field Date s at)
    (cond (eqb f (code "g")) (format_field Time s at)
    (byte_at f s at))))))))))
