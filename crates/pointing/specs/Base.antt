-- Reading as it was before refusals pointed: a word ends with its letters whatever follows, and a fault has a place only by the way. Numbers, texts, data and
-- formats are those of today.
-- Assumes nothing.
use Rattle.std.specs.Prelude.{ℕ, ◌+◌, cond, ◌&&◌, ◌||◌, List, [], ◌∷◌, length, get_or, ltb, eqb, Result, Ok, Err, Option, Some, None}
use Prim.Native.Char.{code}
use Rattle.classes.specs.Bytes.{in_class}
use Rattle.classes.specs.declared.Class.{Class}
use Rattle.classes.specs.declared.Class.TheVariants.{Mode, Side}
use Rattle.fields.specs.Field.{text_at, byte_at, place_behind}
use Rattle.numbers.specs.Number.{number_at, plus, minus}
use Rattle.data_field.specs.Data.{data_at}
use Rattle.formats.specs.declared.Stamp.TheVariants.{Date, Time}
use Rattle.format_field.specs.Reading.{format_field}
use Rattle.grammar.specs.Forms.{row_of}
use Rattle.heads.specs.Heads.{head_of}
use Rattle.row_fields.specs.Reading.{Got, good, bad, ahead, next}
use Rattle.read.specs.Commands.{judged}
use Rattle.read.specs.declared.Fault.{Fault}
use Rattle.read.specs.declared.Fault.TheVariants.{Form as form, Limit}
use Rattle.grammar.specs.declared.Command.{Command}

-- one letter, the bar types, the words under bars, and a number with or without sign
abbrev pub plain_letter_at : Class → List ℕ → ℕ → Result (ℕ × ℕ) ℕ
plain_letter_at k s at = cond (ltb at (length s) && in_class k (get_or s at 0)) (Ok (get_or s at 0, at + 1)) (Err at)

abbrev pub plain_type_at : List ℕ → ℕ → Result (ℕ × ℕ) ℕ
plain_type_at s at =
    cond (eqb (get_or s at 0) (code "1")) (Ok (1, at + 1))
    (cond (eqb (get_or s at 0) (code "2")) (Ok (2, at + 1))
    (cond (eqb (get_or s at 0) (code "3")) (Ok (3, at + 1))
    (cond (eqb (get_or s at 0) (code "E") && (eqb (get_or s (at + 1) 0) (code "3") && eqb (get_or s (at + 2) 0) (code "0"))) (Ok (30, at + 3))
    (Err at))))

abbrev pub plain_word_from : List ℕ → ℕ → Result (ℕ × ℕ) ℕ
plain_word_from s at = cond (place_behind s at) (Ok (get_or s (at + 2) 0, at + 3)) (Ok (code "B", at + 1))

abbrev pub plain_under_at : List ℕ → ℕ → Result (ℕ × ℕ) ℕ
plain_under_at s at = cond (eqb (get_or s at 0) (code "N")) (Ok (code "N", at + 1)) (cond (eqb (get_or s at 0) (code "B")) (plain_word_from s at) (Err at))

abbrev pub plain_signed_at : List ℕ → ℕ → Result (ℕ × ℕ) ℕ
plain_signed_at s at =
    cond (eqb (get_or s at 0) (code "+")) (plus (number_at s (at + 1)))
    (cond (eqb (get_or s at 0) (code "-")) (minus (number_at s (at + 1)))
    (plus (number_at s at)))

-- the field that a letter of the grammar stands for
unfoldable pub plain_field_at : ℕ → List ℕ → ℕ → Result (ℕ × ℕ) ℕ
plain_field_at f s at =
    cond (eqb f (code "n") || (eqb f (code "w") || eqb f (code "y"))) (number_at s at)
    (cond (eqb f (code "t") || (eqb f (code "a") || (eqb f (code "z") || eqb f (code "u")))) (text_at s at)
    (cond (eqb f (code "s")) (plain_signed_at s at)
    (cond (eqb f (code "m")) (plain_letter_at Mode s at)
    (cond (eqb f (code "j")) (plain_letter_at Side s at)
    (cond (eqb f (code "k")) (plain_type_at s at)
    (cond (eqb f (code "h")) (plain_under_at s at)
    (cond (eqb f (code "d")) (data_at s at)
    (cond (eqb f (code "f")) (format_field Date s at)
    (cond (eqb f (code "g")) (format_field Time s at)
    (byte_at f s at))))))))))

-- the fields of a row, a line whose letters name a row or none, and any line
unfoldable pub plain_fields_from : List ℕ → List ℕ → ℕ → Got
plain_fields_from [] s at = cond (eqb at (length s)) (good [] []) (bad [] [] at)
plain_fields_from (f ∷ fs) s at = next (plain_field_at f s at) (λ v e. ahead v at (plain_fields_from fs s e))

unfoldable pub plain_headed : Option ℕ → ℕ → List ℕ → Result Command Fault
plain_headed None rows s = Err (form 0)
plain_headed (Some row) rows s = judged row rows s (plain_fields_from (row_of row).fields s 0)

unfoldable pub plain_read_of : ℕ → List ℕ → Result Command Fault
plain_read_of rows s = plain_headed (head_of s) rows s

-- what a line is read as, without the place of a form that is not the written one. A limit's place is what it was
abbrev pub placeless : Result Command Fault → Result Command Fault
placeless (Ok c) = Ok c
placeless (Err (form p)) = Err (form 0)
placeless (Err (Limit p)) = Err (Limit p)
