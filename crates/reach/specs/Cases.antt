-- Answers 13 and 14, computed.
-- Assumes nothing.
use Prim.Native.Char.{code}
use Prim.Native.String.{String}
use Rattle.std.specs.Prelude.{◌≡◌, refl, false, [], ◌∷◌, Result, Ok, Err}
use Rattle.kinds.specs.Bytes.{between}
use Rattle.kinds.specs.Text.{bytes}
use Rattle.classes.specs.Bytes.{run}
use Rattle.numbers.specs.Number.{value_from, number_at}
use Rattle.fields.specs.Field.{text_at, byte_at}
use Rattle.elements.specs.Elements.{modifier_at, held_at, stamped_at, element_at, elements_from, elements}
use Rattle.declarations.specs.declared.Declared.{Declared}
use Rattle.declarations.specs.Declarations.{nothing, with_variable, with_counter}
use Rattle.reach.specs.declared.DataFault.{DataFault}
use Rattle.reach.specs.declared.DataFault.TheVariants.{Undeclared, Past}
use Rattle.reach.specs.Answers.{reaches_past, undeclared_by, past_by, data_answer}

-- V0 of length 5, left justified; C0 of two digits
declared : Declared
declared = with_counter (with_variable nothing 0 5 (code "L")) 0 2 false 1

answer_of : String → Result Unit DataFault
answer_of text = data_answer declared (elements (bytes text) 0)

-- the lowest of 13 and 14 over all elements; `M4.2` reaches to place 5, `M5.2` past it; a counter's length is its width
case-13-14 :
    answer_of "V0M4.2C0R2" ∷ answer_of "V0M5.2C0R2" ∷ answer_of "C0R3" ∷ answer_of "V0M5.2C1" ∷ answer_of "\"V1\"" ∷ []
    ≡ Ok tt ∷ Err (Past 0) ∷ Err (Past 0) ∷ Err (Undeclared 6) ∷ Ok tt ∷ []
unfolding answer_of data_answer undeclared_by past_by reaches_past declared with_counter with_variable nothing between run value_from number_at text_at byte_at modifier_at held_at element_at elements_from elements
case-13-14 = refl

-- paper 02, §2: "the leftmost such": of two that are not declared, and of two that reach too far, the first
case-leftmost : answer_of "V0V1C1" ∷ answer_of "C0V0L6C0R3" ∷ [] ≡ Err (Undeclared 2) ∷ Err (Past 2) ∷ []
unfolding answer_of data_answer undeclared_by past_by reaches_past declared with_counter with_variable nothing between run value_from number_at text_at byte_at modifier_at held_at element_at elements_from elements
case-leftmost = refl

-- paper 02, §10: date and time need no declaration and reach nowhere; what stands beside them is asked as before
case-stamps : answer_of "TDTT" ∷ answer_of "TDV1TT" ∷ answer_of "TTC0R3" ∷ [] ≡ Ok tt ∷ Err (Undeclared 2) ∷ Err (Past 2) ∷ []
unfolding answer_of data_answer undeclared_by past_by reaches_past declared with_counter with_variable nothing between run value_from number_at text_at byte_at modifier_at held_at element_at stamped_at elements_from elements
case-stamps = refl
