-- What the values and places of a command's fields stand for.
-- Assumes nothing.
use Rattle.std.specs.Prelude.{ℕ, ◌+◌, ◌-◌, Bool, cond, ◌&&◌, List, get_or, ltb, eqb}
use Prim.Native.Char.{code}
use Rattle.numbers.specs.Number.{nought}
use Rattle.formats.specs.declared.Stamp.{Stamp}
use Rattle.formats.specs.Formats.{unpacked}
use Rattle.dots.specs.declared.Ink.{Ink}
use Rattle.grammar.specs.declared.Named.{Named}
use Rattle.grammar.specs.declared.Item.TheVariants.{Box, Slant, Format}
use Rattle.grammar.specs.declared.Command.{Command}
use Rattle.grammar.specs.declared.Command.TheVariants.{Item as item}

-- a command of the line, the values and the places of its fields: field 0, field 1 and so on
abbrev pub Maker : Type 0
Maker = List ℕ → (ℕ → ℕ) → (ℕ → ℕ) → Command

-- `LO` black, `LE` inverts, `LW` white: c by d dots from a, b on
abbrev pub box_of : Ink → (ℕ → ℕ) → Command
box_of i v = item (Box (record { ink = i; a = v 0; b = v 1; c = v 2; d = v 3 }))

-- paper 02, §8, "`LS`, then nothing, `E` or `W`, then a,b,c,d,e": "black, inverting, white", c thick, from a, b to d, e
abbrev pub slant_of : Ink → (ℕ → ℕ) → Command
slant_of i v = item (Slant (record { ink = i; a = v 0; b = v 1; c = v 2; d = v 3; e = v 4 }))

-- paper 02, §10, `TD` and `TT`: the format of the date or of the time, which reading the field gives as one number
abbrev pub format_from : Stamp → (ℕ → ℕ) → Command
format_from st v = item (Format (record { stamp = st; format = unpacked (v 0) }))

-- the step of a counter: its sign and how far it goes (the field counts from -1,000,000,000)
abbrev pub is_minus : ℕ → Bool
is_minus v = ltb v nought

abbrev pub step_of : ℕ → ℕ
step_of v = (nought - v) + (v - nought)

-- one of the letters L, R, C, N, Z
abbrev pub side_of : ℕ → ℕ
side_of v = cond (eqb v (code "L")) (code "L") (cond (eqb v (code "R")) (code "R") (cond (eqb v (code "C")) (code "C") (cond (eqb v (code "N")) (code "N") (code "Z"))))

-- "`"*"` erases all"
abbrev pub starred : List ℕ → ℕ → ℕ → Bool
starred s p n = eqb n 1 && eqb (get_or s (p + 1) 0) (code "*")

-- a name: the place of its quote, its length, and whether it is the star that means all
abbrev pub named_from : List ℕ → ℕ → ℕ → Named
named_from s p n = record { at = p; length = n; all = starred s p n }
