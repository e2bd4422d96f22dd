-- Paper 01, "Data": "One or more elements side by side", and what each shows of given values.
-- Assumes nothing.
use Rattle.std.specs.Prelude.{ℕ, ◌+◌, ◌-◌, min, List, [], ◌∷◌, ◌++◌, length, take, drop}
use Rattle.std.proofs.lemmas.List.Edits.{sets}
use Rattle.calendar.specs.declared.Clock.{Clock}
use Rattle.formats.specs.Formats.{format_of}
use Rattle.stamps.specs.Texts.{stamp_text}
use Rattle.elements.specs.declared.Part.{Part}
use Rattle.elements.specs.declared.Part.TheVariants.{Whole, First, Last, Middle}
use Rattle.elements.specs.declared.What.{What}
use Rattle.elements.specs.declared.What.TheVariants.{Text, Variable, Counter, Stamped}
use Rattle.elements.specs.declared.Element.{Element}
use Rattle.elements.specs.Elements.{elements}
use Rattle.declarations.specs.declared.Declared.{Declared}
use Rattle.counters.specs.declared.Counters.{Counters}
use Rattle.declarations.specs.Declarations.{width_at}
use Rattle.counters.specs.Counters.{digits, counter_value}
use Rattle.stored_values.specs.Stored.{variable_in}

-- ---- pieces

-- "the first n, the last n, n from place p"; "On a short N value a modifier takes what exists"
unfoldable pub part_of : Part → List ℕ → List ℕ
part_of Whole v = v
part_of (First n) v = take n v
part_of (Last n) v = drop (length v - n) v
part_of (Middle p n) v = take n (drop (p - 1) v)

-- what stands between an element's quotes
abbrev pub text_in : List ℕ → Element → List ℕ
text_in line e = take (e.length - 2) (drop (e.at + 1) line)

-- a piece of the line, or of the value
abbrev pub piece_from : What → List ℕ → List ℕ → Element → List ℕ
piece_from Text line value e = text_in line e
piece_from (Variable k p) line value e = part_of p value
piece_from (Counter k p) line value e = part_of p value
piece_from (Stamped st) line value e = value

-- "Each piece is shown as a part of the line or of the value"
unfoldable pub piece_of : List ℕ → List ℕ → Element → List ℕ
piece_of line value e = piece_from e.what line value e

-- ---- data

-- a set of values: each variable's stored bytes, each counter's number, and the clock
pub record Values : Type 0 where
  pub variable : ℕ → List ℕ
  pub counter : ℕ → ℕ
  pub clock : Clock

-- the value that an element shows a part of; "a counter's is a part of its digits". Date and time are shown whole, in the format in force
abbrev pub value_of : Declared → Values → What → List ℕ
value_of d v Text = []
value_of d v (Variable k p) = v.variable k
value_of d v (Counter k p) = digits (width_at d k) (v.counter k)
value_of d v (Stamped st) = stamp_text st v.clock (format_of d.formats st)

-- what an element shows of a set of values
abbrev pub piece_at : List ℕ → Declared → Values → Element → List ℕ
piece_at line d v e = piece_of line (value_of d v e.what) e

-- the pieces side by side
abbrev pub assembled : List ℕ → Declared → Values → List Element → List ℕ
assembled line d v [] = []
assembled line d v (e ∷ es) = piece_at line d v e ++ assembled line d v es

-- the data from a place of a line on
abbrev pub data_of : List ℕ → ℕ → Declared → Values → List ℕ
data_of line at d v = assembled line d v (elements line at)

-- ---- in a row of bytes

-- the values that are lent, the session's counters and its clock
abbrev pub values_in : List ℕ → Counters → Clock → Values
values_in values c clock = record { variable = variable_in values; counter = counter_value c; clock = clock }

-- serves the code alone, as the rest of this file. How far a row of bytes is filled, and the row
pub record Laid : Type 0 where
  pub next : ℕ
  pub out : List ℕ

abbrev pub row : ℕ → List ℕ → Laid
row n out = record { next = n; out = out }

-- data from the row's first byte on; what lies past its end is lost
abbrev pub shown : List ℕ → List ℕ → Laid
shown bytes out = row (min (length bytes) (length out)) (sets out 0 bytes)

-- one piece behind what is there
abbrev pub lay : List ℕ → Laid → Laid
lay t l = row (l.next + min (length l.out - l.next) (length t)) (sets l.out l.next t)
