-- Paper 01, "Data": "One or more elements side by side: quoted text, or `V`/`C` and a digit, then at most one of `Ln`, `Rn`, `Mp.n`". Paper 02, §10: "In data, `TD` and
-- `TT` become elements".
-- Assumes nothing.
use Rattle.std.specs.Prelude.{ℕ, zero, suc, ◌+◌, ◌-◌, Bool, true, false, cond, List, [], ◌∷◌, length, get_or, eqb, Result, Ok, Err}
use Prim.Native.Char.{code}
use Rattle.formats.specs.Bytes.{between}
use Rattle.fields.specs.Field.{text_at, byte_at, pointed}
use Rattle.numbers.specs.Number.{digit_of, number_at}
use Rattle.formats.specs.declared.Stamp.{Stamp}
use Rattle.formats.specs.declared.Stamp.TheVariants.{Date, Time}
use Rattle.elements.specs.declared.Part.{Part}
use Rattle.elements.specs.declared.Part.TheVariants.{Whole, First, Last, Middle}
use Rattle.elements.specs.declared.What.{What}
use Rattle.elements.specs.declared.What.TheVariants.{Text, Variable, Counter, Stamped}
use Rattle.elements.specs.declared.Element.{Element}

-- `Ln`: the first n, after the letter
abbrev pub first : ℕ → Result (ℕ × ℕ) ℕ → Result (Part × ℕ) ℕ
first at (Ok (n, e)) = Ok (First n, e)
first at (Err p) = Err at

-- `Rn`: the last n
abbrev pub last : ℕ → Result (ℕ × ℕ) ℕ → Result (Part × ℕ) ℕ
last at (Ok (n, e)) = Ok (Last n, e)
last at (Err p) = Err at

-- `Mp.n`: n from place p
abbrev pub middle-n : ℕ → ℕ → Result (ℕ × ℕ) ℕ → Result (Part × ℕ) ℕ
middle-n p at (Ok (n, e)) = Ok (Middle p n, e)
middle-n p at (Err q) = Err at

abbrev pub middle-dot : ℕ → List ℕ → ℕ → Result (ℕ × ℕ) ℕ → Result (Part × ℕ) ℕ
middle-dot p s at (Ok (d, e)) = middle-n p e (number_at s e)
middle-dot p s at (Err q) = Err at

abbrev pub middle : List ℕ → ℕ → Result (ℕ × ℕ) ℕ → Result (Part × ℕ) ℕ
middle s at (Ok (p, e)) = middle-dot p s e (byte_at (code ".") s e)
middle s at (Err q) = Err at

-- a modifier at a place, or none
unfoldable pub modifier_at : List ℕ → ℕ → Result (Part × ℕ) ℕ
modifier_at s at =
    cond (eqb (get_or s at 0) (code "L")) (first (at + 1) (number_at s (at + 1)))
    (cond (eqb (get_or s at 0) (code "R")) (last (at + 1) (number_at s (at + 1)))
    (cond (eqb (get_or s at 0) (code "M")) (middle s (at + 1) (number_at s (at + 1)))
    (Ok (Whole, at))))

abbrev pub quoted_from : ℕ → Result (ℕ × ℕ) ℕ → Result Element ℕ
quoted_from at (Ok (n, e)) = Ok (record { what = Text; at = at; length = n + 2 })
quoted_from at (Err p) = Err p

-- the variable or counter of a digit
abbrev pub held_from : Bool → ℕ → Part → What
held_from true digit p = Counter (digit_of digit) p
held_from false digit p = Variable (digit_of digit) p

-- an element is one piece with its modifier: where that goes wrong the element's first byte is at fault, or the LF
abbrev pub modified : Bool → ℕ → List ℕ → ℕ → Result (Part × ℕ) ℕ → Result Element ℕ
modified counter digit s at (Ok (p, e)) = Ok (record { what = held_from counter digit p; at = at; length = e - at })
modified counter digit s at (Err q) = Err (pointed s at q)

-- after `V` or `C`
unfoldable pub held_at : Bool → List ℕ → ℕ → Result Element ℕ
held_at counter s at =
    cond (between (code "0") (code "9") (get_or s (at + 1) 0))
    (modified counter (get_or s (at + 1) 0) s at (modifier_at s (at + 2)))
    (Err (pointed s at (at + 1)))

-- the date or the time of day
abbrev pub stamped_from : ℕ → Stamp → Result Element ℕ
stamped_from at st = Ok (record { what = Stamped st; at = at; length = 2 })

-- after `T`: "These two elements take no modifier", so that what follows is another element
unfoldable pub stamped_at : List ℕ → ℕ → Result Element ℕ
stamped_at s at =
    cond (eqb (get_or s (at + 1) 0) (code "D")) (stamped_from at Date)
    (cond (eqb (get_or s (at + 1) 0) (code "T")) (stamped_from at Time)
    (Err (pointed s at (at + 1))))

-- the element at a place, or none: bytes where an element should start are themselves at fault
unfoldable pub element_at : List ℕ → ℕ → Result Element ℕ
element_at s at =
    cond (eqb (get_or s at 0) (code "\"")) (quoted_from at (text_at s at))
    (cond (eqb (get_or s at 0) (code "V")) (held_at false s at)
    (cond (eqb (get_or s at 0) (code "C")) (held_at true s at)
    (cond (eqb (get_or s at 0) (code "T")) (stamped_at s at)
    (Err at))))

-- the place after an element
abbrev pub after : Element → ℕ
after e = e.at + e.length

abbrev pub follow : Result Element ℕ → (ℕ → List Element) → List Element
follow (Ok e) f = e ∷ f (after e)
follow (Err p) f = []

-- at most n elements side by side from a place on
unfoldable pub elements_from : ℕ → List ℕ → ℕ → List Element
elements_from zero s at = []
elements_from (suc n) s at = follow (element_at s at) (elements_from n s)

-- all elements side by side from a place on: each takes a byte at least, so there are no more than bytes
unfoldable pub elements : List ℕ → ℕ → List Element
elements s at = elements_from (length s - at) s at
