-- Elements of the paper's lines, and what reading them gives: antt computes each.
-- Assumes nothing.
use Rattle.std.specs.Prelude.{◌≡◌, refl, [], ◌∷◌, Err}
use Rattle.formats.specs.Bytes.{between}
use Rattle.formats.specs.Text.{bytes}
use Rattle.numbers.specs.Bytes.{run}
use Rattle.fields.specs.Field.{byte_at}
use Rattle.numbers.specs.Number.{value_from, number_at}
use Rattle.formats.specs.declared.Stamp.TheVariants.{Date, Time}
use Rattle.elements.specs.Elements.{modifier_at, held_at, stamped_at, element_at, elements_from, elements}
use Rattle.elements.specs.declared.Part.TheVariants.{First, Last, Middle}
use Rattle.elements.specs.declared.What.TheVariants.{Variable, Stamped}

-- "`V0L1V0M3.2V0R1`"
three : elements (bytes "V0L1V0M3.2V0R1") 0
    ≡ record { what = Variable 0 (First 1); at = 0; length = 4 }
    ∷ record { what = Variable 0 (Middle 3 2); at = 4; length = 6 }
    ∷ record { what = Variable 0 (Last 1); at = 10; length = 4 }
    ∷ []
unfolding elements elements_from element_at held_at modifier_at number_at byte_at run between value_from
three = refl

-- date and time side by side; a modifier behind them is none, and another letter behind `T` points to the T, the line's end to its LF
stamps : elements (bytes "TDTTL2") 0 ≡ record { what = Stamped Date; at = 0; length = 2 } ∷ record { what = Stamped Time; at = 2; length = 2 } ∷ []
unfolding elements elements_from element_at stamped_at
stamps = refl

no-stamps :
    element_at (bytes "TDL2") 2 ∷ element_at (bytes "Tx") 0 ∷ element_at (bytes "td") 0 ∷ element_at (bytes "T") 0 ∷ []
    ≡ Err 2 ∷ Err 0 ∷ Err 0 ∷ Err 1 ∷ []
unfolding element_at stamped_at
no-stamps = refl
