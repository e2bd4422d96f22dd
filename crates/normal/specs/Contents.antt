-- What a line says, apart from where its bytes stand.
-- Assumes nothing.
use Rattle.std.specs.Prelude.{ℕ, ◌+◌, true, false, cond, ◌||◌, List, [], ◌∷◌, ◌++◌, get_or, drop, eqb, Option, Some, None}
use Prim.Native.Char.{code}
use Rattle.elements.specs.Elements.{elements}
use Rattle.elements.specs.declared.What.{What}
use Rattle.elements.specs.declared.What.TheVariants.{Text as Quote}
use Rattle.elements.specs.declared.Element.{Element}
use Rattle.row_fields.specs.Reading.{Got, good, bad, fields_from}
use Rattle.grammar.specs.Forms.{row_of}
use Rattle.heads.specs.Heads.{head_of}
use Rattle.grammar.specs.declared.Item.{Item}
use Rattle.grammar.specs.declared.Item.TheVariants.{Origin, Variable, Counter, Text, Bars, Box, Frame, Slant, Picture, Format}
use Rattle.writing.specs.Writing.{kept, cased}
use Rattle.normal.specs.Written.{element_written}

-- a line's command with its numbers and letters, its places left out
abbrev pub unplaced : Item → Item
unplaced (Origin o) = Origin o
unplaced (Variable x) = Variable (record { n = x.n; m = x.m; j = x.j; at = 0; length = x.length })
unplaced (Counter x) = Counter (record { n = x.n; w = x.w; minus = x.minus; step = x.step; at = 0; length = x.length })
unplaced (Text x) = Text (record { x = x.x; y = x.y; r = x.r; h = x.h; v = x.v; reverse = x.reverse; at = 0 })
unplaced (Bars x) = Bars (record { x = x.x; y = x.y; r = x.r; kind = x.kind; e = x.e; f = x.f; g = x.g; under = x.under; at = 0 })
unplaced (Box b) = Box b
unplaced (Frame f) = Frame f
unplaced (Slant l) = Slant l
unplaced (Format f) = Format f
unplaced (Picture x) = Picture (record { a = x.a; b = x.b; at = 0; length = x.length })

-- the elements of data: what each is, and its bytes as they are written
unfoldable pub pieces : List ℕ → List Element → List (What × List ℕ)
pieces s [] = []
pieces s (e ∷ es) = (e.what, element_written s e) ∷ pieces s es

-- what a field holds between quotes: a prompt or a text as it stands, a name in capitals, the elements of data
unfoldable pub held : ℕ → List ℕ → ℕ → ℕ → List (What × List ℕ)
held f s v p =
    cond (eqb f (code "t") || eqb f (code "u")) ((Quote, cased false (kept s (p + 1) v)) ∷ [])
    (cond (eqb f (code "a") || eqb f (code "z")) ((Quote, cased true (kept s (p + 1) v)) ∷ [])
    (cond (eqb f (code "d")) (pieces s (elements s p))
    []))

unfoldable pub held_by : List ℕ → List ℕ → List ℕ → List ℕ → List (What × List ℕ)
held_by [] s vs ps = []
held_by (f ∷ fs) s vs ps = held f s (get_or vs 0 0) (get_or ps 0 0) ++ held_by fs s (drop 1 vs) (drop 1 ps)

unfoldable pub contents_of : ℕ → List ℕ → Got → List (What × List ℕ)
contents_of row s (good vs ps) = held_by (row_of row).fields s vs ps
contents_of row s (bad vs ps p) = []

unfoldable pub head_contents : Option ℕ → List ℕ → List (What × List ℕ)
head_contents (Some row) s = contents_of row s (fields_from (row_of row).fields s 0)
head_contents None s = []

-- the contents of a line: its name, prompt, text or data
abbrev pub contents : List ℕ → List (What × List ℕ)
contents s = head_contents (head_of s) s
