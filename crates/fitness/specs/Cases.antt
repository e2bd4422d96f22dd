-- The paper's own data, judged.
-- Assumes nothing.
use Prim.Native.Char.{code}
use Rattle.std.specs.Prelude.{ℕ, ◌≡◌, refl, Bool, true, false, [], ◌∷◌, Result, Ok, Err}
use Prim.Native.String.{String}
use Rattle.kinds.specs.declared.Kind.{Kind}
use Rattle.kinds.specs.declared.Kind.TheVariants.{Shown, Code39, Interleaved, Ean13, Code128}
use Rattle.kinds.specs.Bytes.{between}
use Rattle.kinds.specs.Fit.{in_class, fit_length}
use Rattle.kinds.specs.Text.{bytes}
use Rattle.classes.specs.Bytes.{run}
use Rattle.numbers.specs.Number.{value_from, number_at}
use Rattle.fields.specs.Field.{text_at, byte_at}
use Rattle.formats.specs.declared.Format.{Format}
use Rattle.formats.specs.declared.Stamp.TheVariants.{Date, Time}
use Rattle.formats.specs.Formats.{format, formats_of, example}
use Rattle.stamps.specs.Always.{length_of, stamp_length, good_field, good_marked, stamp_good}
use Rattle.elements.specs.Elements.{modifier_at, held_at, stamped_at, element_at, elements_from, elements}
use Rattle.declarations.specs.declared.Declared.{Declared}
use Rattle.declarations.specs.Declarations.{nothing, outside_forms, with_variable, with_counter}
use Rattle.reach.specs.Answers.{reaches_past, undeclared_by, past_by, data_answer}
use Rattle.summary.specs.Summary.{part_length, judged}
use Rattle.fitness.specs.declared.NotFit.{NotFit}
use Rattle.fitness.specs.declared.NotFit.TheVariants.{Undeclared as NotDeclared, Past as Reaches, Unfit}
use Rattle.fitness.specs.Judged.{data_judged}

-- V0 of length 5 and a justification; C0 of two digits
declared : ℕ → Declared
declared side = with_counter (with_variable nothing 0 5 side) 0 2 false 1

judged_of : String → ℕ → Kind → Bool
judged_of text side k = judged (bytes text) (declared side) (elements (bytes text) 0) k

-- "Taking Code 39 for a text variable because today's value is fine": L is refused, Z taken; four digits of a Z are two pairs, five
-- are none; ten digits and a counter of two are E30's twelve; an N may be empty, so it is no data of type 1 by itself
case-15 :
    judged_of "V0L1V0M3.2V0R1" (code "L") Code39
    ∷ judged_of "V0L1V0M3.2V0R1" (code "Z") Code39
    ∷ judged_of "V0L1V0M3.2V0R1" (code "Z") Interleaved
    ∷ judged_of "V0" (code "Z") Interleaved
    ∷ judged_of "\"1234567890\"C0" (code "L") Ean13
    ∷ judged_of "V0" (code "N") Code128
    ∷ judged_of "V0\"-\"" (code "N") Code128
    ∷ judged_of "V0" (code "N") Shown
    ∷ []
    ≡ false ∷ true ∷ true ∷ false ∷ true ∷ false ∷ true ∷ true ∷ []
unfolding judged_of judged in_class fit_length part_length declared with_counter with_variable nothing between run value_from number_at text_at byte_at modifier_at held_at element_at elements_from elements
case-15 = refl

judgement_of : String → Result Unit NotFit
judgement_of text = data_judged (declared (code "L")) (bytes text) (elements (bytes text) 0) Code39

-- in Code 39 a text variable is unfit, which counts only where 13 and 14 do not apply
case-lowest :
    judgement_of "C0" ∷ judgement_of "V0" ∷ judgement_of "V0L6" ∷ judgement_of "V0L6V1" ∷ []
    ≡ Ok tt ∷ Err Unfit ∷ Err (Reaches 0) ∷ Err (NotDeclared 4) ∷ []
unfolding judgement_of judged in_class fit_length part_length data_answer undeclared_by past_by reaches_past declared with_counter with_variable nothing between run value_from number_at text_at byte_at modifier_at held_at element_at elements_from elements
case-lowest = refl

-- ---- paper 02, §10: "Unfit data is judged over all clock values as well as all variables"

stamped_of : String → Format → Format → Kind → Bool
stamped_of text date time k = judged (bytes text) (outside_forms (formats_of date time)) (elements (bytes text) 0) k

-- in the example formats: a date is capitals, digits and `-`, so it is fit for Code 39 and type 1, and no number; a time has colons, which Code 39 has not
case-examples :
    stamped_of "TD" (example Date) (example Time) Shown
    ∷ stamped_of "TD" (example Date) (example Time) Code39
    ∷ stamped_of "TD" (example Date) (example Time) Code128
    ∷ stamped_of "TD" (example Date) (example Time) Interleaved
    ∷ stamped_of "TD" (example Date) (example Time) Ean13
    ∷ stamped_of "TT" (example Date) (example Time) Code39
    ∷ stamped_of "TD\"/\"TT" (example Date) (example Time) Code128
    ∷ []
    ≡ true ∷ true ∷ true ∷ false ∷ false ∷ false ∷ true ∷ []
unfolding stamped_of judged in_class fit_length between run text_at element_at stamped_at elements_from elements example length_of stamp_length good_field good_marked stamp_good
case-examples = refl

-- digits with digits between them: `y20mn1dd` shows eight, which are pairs, `y20mn` five; with a month in letters no number
case-pairs :
    stamped_of "TD" (format 1 (code "0") 4 (code "1") 5) (example Time) Interleaved
    ∷ stamped_of "TD" (format 1 (code "0") 4 0 0) (example Time) Interleaved
    ∷ stamped_of "TDTT" (format 1 (code "0") 4 0 0) (format 1 (code "0") 2 0 0) Interleaved
    ∷ stamped_of "TD" (format 1 (code "0") 3 0 0) (example Time) Interleaved
    ∷ stamped_of "TD" (format 1 (code "-") 4 0 0) (example Time) Interleaved
    ∷ []
    ≡ true ∷ false ∷ true ∷ false ∷ false ∷ []
unfolding stamped_of judged in_class fit_length between element_at stamped_at elements_from elements length_of stamp_length good_field good_marked stamp_good
case-pairs = refl

-- E30 takes exactly twelve: `y40mn1dd` shows ten, and the hour or two digits of text the other two
case-twelve :
    stamped_of "TDTT" (format 2 (code "0") 4 (code "1") 5) (format 1 0 0 0 0) Ean13
    ∷ stamped_of "\"12\"TD" (format 2 (code "0") 4 (code "1") 5) (example Time) Ean13
    ∷ stamped_of "TD" (format 2 (code "0") 4 (code "1") 5) (example Time) Ean13
    ∷ stamped_of "TDTT" (format 2 (code "0") 4 (code "1") 5) (format 1 (code "0") 2 0 0) Ean13
    ∷ []
    ≡ true ∷ true ∷ false ∷ false ∷ []
unfolding stamped_of judged in_class fit_length between run text_at element_at stamped_at elements_from elements example length_of stamp_length good_field good_marked stamp_good
case-twelve = refl
