-- Paper 01, "Commands": "A recorded line is checked and kept, not run, with leading zeros dropped, names in capitals, signs written and minus
-- zero as `+0`". The normal form of a line.
-- Assumes nothing.
use Rattle.std.specs.Prelude.{ℕ, ◌+◌, Bool, true, false, cond, ◌||◌, ◌&&◌, List, [], ◌∷◌, ◌++◌, length, get_or, drop, leb, eqb, Option, Some, None, Result, Ok, Err}
use Prim.Native.Char.{code}
use Rattle.read.specs.declared.Fault.{Fault}
use Rattle.kinds.specs.Text.{bytes}
use Rattle.formats.specs.declared.Stamp.{Stamp}
use Rattle.formats.specs.declared.Stamp.TheVariants.{Date, Time}
use Rattle.elements.specs.Elements.{elements}
use Rattle.elements.specs.declared.Part.{Part}
use Rattle.elements.specs.declared.Part.TheVariants.{Whole, First, Last, Middle}
use Rattle.elements.specs.declared.What.{What}
use Rattle.elements.specs.declared.What.TheVariants.{Text, Variable, Counter, Stamped}
use Rattle.elements.specs.declared.Element.{Element}
use Rattle.row_fields.specs.Reading.{Got, good, bad, fields_from}
use Rattle.grammar.specs.Forms.{row_of}
use Rattle.heads.specs.Heads.{head_of}
use Rattle.writing.specs.Writing.{decimal, signed, kept, cased, equal}
use Rattle.read.specs.Commands.{read_of}
use Rattle.grammar.specs.declared.Command.{Command}
use Rattle.grammar.specs.declared.Command.TheVariants.{Item as item, End, Page, Forms, Pictures, Values, Listing, Clock}

-- a modifier
unfoldable pub part_written : Part → List ℕ
part_written Whole = []
part_written (First n) = code "L" ∷ decimal n
part_written (Last n) = code "R" ∷ decimal n
part_written (Middle p n) = code "M" ∷ (decimal p ++ (code "." ∷ decimal n))

-- the date, the time of day
abbrev pub stamp_written : Stamp → List ℕ
stamp_written Date = bytes "TD"
stamp_written Time = bytes "TT"

-- an element of data: a text stays, a variable or counter is its letter, its digit and its modifier, date and time their two letters
unfoldable pub what_written : List ℕ → ℕ → ℕ → What → List ℕ
what_written s at n Text = kept s at n
what_written s at n (Variable k p) = code "V" ∷ (decimal k ++ part_written p)
what_written s at n (Counter k p) = code "C" ∷ (decimal k ++ part_written p)
what_written s at n (Stamped st) = stamp_written st

abbrev pub element_written : List ℕ → Element → List ℕ
element_written s e = what_written s e.at e.length e.what

unfoldable pub data_written : List ℕ → List Element → List ℕ
data_written s [] = []
data_written s (e ∷ es) = element_written s e ++ data_written s es

-- a line under bars and its place
abbrev pub placed_written : ℕ → List ℕ
placed_written place = bytes "B," ++ (place ∷ [])

-- what stands under bars, by the last letter of its word: `N`, `B`, `B,C` and `B,R` stay as they were written
unfoldable pub word_written : ℕ → List ℕ
word_written v =
    cond (eqb v (code "N")) (bytes "N") (cond (eqb v (code "B")) (bytes "B") (cond (eqb v (code "C")) (placed_written (code "C")) (placed_written (code "R"))))

-- the field of value v at p that a byte of a form stands for; a format runs to the end of its line, and its letters stay as they were written
unfoldable pub written_field : ℕ → List ℕ → ℕ → ℕ → List ℕ
written_field f s v p =
    cond (eqb f (code "n") || (eqb f (code "w") || eqb f (code "y"))) (decimal v)
    (cond (eqb f (code "t") || eqb f (code "u")) (cased false (kept s p (v + 2)))
    (cond (eqb f (code "a") || eqb f (code "z")) (cased true (kept s p (v + 2)))
    (cond (eqb f (code "s")) (signed v)
    (cond (eqb f (code "m") || eqb f (code "j")) (cased false (kept s p 1))
    (cond (eqb f (code "k")) (cased false (kept s p (cond (eqb v 30) 3 1)))
    (cond (eqb f (code "h")) (word_written v)
    (cond (eqb f (code "d")) (data_written s (elements s p))
    (cond (eqb f (code "f") || eqb f (code "g")) (cased false (drop p s))
    (f ∷ [])))))))))

-- the fields of a form, with their values and places
unfoldable pub written_from : List ℕ → List ℕ → List ℕ → List ℕ → List ℕ
written_from [] s vs ps = []
written_from (f ∷ fs) s vs ps = written_field f s (get_or vs 0 0) (get_or ps 0 0) ++ written_from fs s (drop 1 vs) (drop 1 ps)

-- the normal form of a line; of what is no line of the language, nothing
unfoldable pub written_of : ℕ → List ℕ → Got → List ℕ
written_of row s (good vs ps) = written_from (row_of row).fields s vs ps
written_of row s (bad vs ps p) = []

unfoldable pub head_written : Option ℕ → List ℕ → List ℕ
head_written (Some row) s = written_of row s (fields_from (row_of row).fields s 0)
head_written None s = []

abbrev pub normal : List ℕ → List ℕ
normal s = head_written (head_of s) s

-- ---- lines that may stand in a form as they are

abbrev pub is_item : Command → Bool
is_item (item i) = true
is_item End = false
is_item (Page c) = false
is_item (Forms c) = false
is_item (Pictures c) = false
is_item (Values c) = false
is_item (Listing c) = false
is_item (Clock c) = false

abbrev pub taken_item : Result Command Fault → Bool
taken_item (Ok c) = is_item c
taken_item (Err f) = false

-- at most 255 bytes, one of the lines that may stand in a form, and its own normal form (no such line depends on the rows of the page)
unfoldable pub is_normal : List ℕ → Bool
is_normal s = leb (length s) 255 && (taken_item (read_of 1 s) && equal (normal s) s)
