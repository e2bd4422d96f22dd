-- Paper 01, "Reading a command": the line at the front of the input, and how much of the input a call reads.
-- Assumes nothing.
use Rattle.std.specs.Prelude.{ℕ, ◌+◌, cond, ◌||◌, List, length, get_or, take, leb, ltb, eqb, Option, Some, None}
use Prim.Native.Char.{code}
use Rattle.kinds.specs.Bytes.{between}
use Rattle.classes.specs.Bytes.{run}
use Rattle.classes.specs.declared.Class.TheVariants.{Inside}
use Rattle.grammar.specs.Named.{GM}
use Rattle.grammar.specs.Forms.{row_of, in_order}
use Rattle.heads.specs.Heads.{head_of}
use Rattle.row_fields.specs.Reading.{Got, good, bad, fields_from}
use Rattle.front.specs.declared.Front.{Front}
use Rattle.front.specs.declared.Front.TheVariants.{Short, Long, Idle, Line}

-- the n of a GM, its second field
abbrev pub size_in : List ℕ → ℕ
size_in vs = get_or (in_order (row_of GM).fields 0 vs) 1 0

-- "A GM is well-formed when it has the written form and its n is 1 to 32768, good name or not": its n, and 0 of another line
unfoldable pub size_of : Got → ℕ
size_of (good vs ps) = cond (between 1 32768 (size_in vs)) (size_in vs) 0
size_of (bad vs ps p) = 0

unfoldable pub asked_by : Option ℕ → List ℕ → ℕ
asked_by (Some row) l = cond (eqb row GM) (size_of (fields_from (row_of GM).fields l 0)) 0
asked_by None l = 0

abbrev pub asked : List ℕ → ℕ
asked l = asked_by (head_of l) l

-- a line of n bytes: "An empty line or one starting with `;` does nothing"; "a well-formed GM lacks its bytes" is 4
unfoldable pub line_front : List ℕ → ℕ → Front
line_front s n =
    cond (eqb n 0 || eqb (get_or s 0 0) (code ";")) (Idle (n + 1))
    (cond (leb (n + 1 + asked (take n s)) (length s)) (Line n (n + 1 + asked (take n s))) Short)

-- "A line is up to 255 bytes, then LF". 4: "fewer than 256 bytes and no LF". 5: "no LF in the first 256 bytes", which "reads through the
-- first LF, or everything if there is none"
unfoldable pub front_of : List ℕ → Front
front_of s =
    cond (ltb (run Inside s) (length s))
    (cond (ltb (run Inside s) 256) (line_front s (run Inside s)) (Long (run Inside s + 1)))
    (cond (ltb (length s) 256) Short (Long (length s)))
