-- Paper 01, "Data": "One or more elements side by side", as the last field of a line.
-- Assumes nothing.
use Rattle.std.specs.Prelude.{ℕ, ◌+◌, Bool, true, cond, ◌&&◌, List, [], ◌∷◌, length, eqb, ltb, Result, Ok, Err}
use Rattle.fields.specs.KindsBytes.{between}
use Rattle.elements.specs.Elements.{element_at, elements}
use Rattle.elements.specs.declared.Part.{Part}
use Rattle.elements.specs.declared.Part.TheVariants.{Whole, First, Last, Middle}
use Rattle.elements.specs.declared.What.{What}
use Rattle.elements.specs.declared.What.TheVariants.{Text, Variable, Counter, Stamped}
use Rattle.elements.specs.declared.Element.{Element}

-- how many bytes they take
unfoldable pub total : List Element → ℕ
total [] = 0
total (e ∷ es) = e.length + total es

abbrev pub stopped : ℕ → Result Element ℕ → ℕ
stopped at (Ok e) = at
stopped at (Err p) = p

-- one or more elements to the end of the line. As a field data has no value (0). Where it goes wrong the first piece that is no element is at fault
unfoldable pub data_at : List ℕ → ℕ → Result (ℕ × ℕ) ℕ
data_at s at =
    let e : ℕ = at + total (elements s at) in
    cond (ltb at e && eqb e (length s)) (Ok (0, e)) (Err (stopped e (element_at s e)))

-- "n and p from 1 to 32"
abbrev pub part_good : Part → Bool
part_good Whole = true
part_good (First n) = between 1 32 n
part_good (Last n) = between 1 32 n
part_good (Middle p n) = between 1 32 p && between 1 32 n

abbrev pub what_good : What → Bool
what_good Text = true
what_good (Variable n p) = part_good p
what_good (Counter n p) = part_good p
what_good (Stamped st) = true

-- whether all modifiers are within their limits, or the place of the first element that is outside
unfoldable pub limits : List Element → Result Unit ℕ
limits [] = Ok tt
limits (e ∷ es) = cond (what_good e.what) (limits es) (Err e.at)
