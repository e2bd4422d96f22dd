-- "A line is up to 255 bytes, then LF (0Ah)": the lines of a content.
use Rattle.std.specs.Prelude.{List, [], ◌∷◌, ◌++◌, Bool, true, false, cond, ℕ, suc, length, take, eqb, ltb}
use Prim.Native.Char.{code}
use Rattle.std.proofs.lemmas.List.Edits.{sets}
use Rattle.contents.specs.declared.Cursor.{Cursor}
use Rattle.content_lines.specs.declared.Next.{Next}
use Rattle.content_lines.specs.declared.Next.TheVariants.{Line, End, Bad}
use Rattle.contents.specs.Content.{ahead, after}

-- "LF (0Ah)"
abbrev pub line_feed : ℕ
line_feed = code "\n"

-- ---- all lines: what stands before each LF, and what follows the last

pub record Lines : Type 0 where
  pub whole : List (List ℕ)
  pub rest : List ℕ

abbrev pub lines : List (List ℕ) → List ℕ → Lines
lines w r = record { whole = w; rest = r }

-- bytes put before the first line, or before the rest where there is no line
abbrev pub onto_whole : List ℕ → List (List ℕ) → List ℕ → Lines
onto_whole l [] r = lines [] (l ++ r)
onto_whole l (m ∷ ms) r = lines ((l ++ m) ∷ ms) r

abbrev pub onto : List ℕ → Lines → Lines
onto l s = onto_whole l s.whole s.rest

abbrev pub with_byte : Bool → ℕ → Lines → Lines
with_byte true b s = lines ([] ∷ s.whole) s.rest
with_byte false b s = onto (b ∷ []) s

unfoldable pub lines_of : List ℕ → Lines
lines_of [] = lines [] []
lines_of (b ∷ bs) = with_byte (eqb b line_feed) b (lines_of bs)

-- ---- serves the code alone: the next line ahead of a reader

-- "up to 255 bytes"
abbrev pub longest_line : ℕ
longest_line = 255

-- what stands before the first LF; all, where there is none
unfoldable pub line_of : List ℕ → List ℕ
line_of [] = []
line_of (b ∷ bs) = cond (eqb b line_feed) [] (b ∷ line_of bs)

-- more than 255 bytes before the LF, or bytes with no LF: bad; no bytes: the end; else the line's length and the reader behind its LF
unfoldable pub next_line : List ℕ → List ℕ → Cursor → Next
next_line store links c =
    cond (ltb longest_line (length (line_of (ahead store links c)))) Bad
    (cond (ltb (length (line_of (ahead store links c))) c.left)
    (Line (length (line_of (ahead store links c))) (after links c (suc (length (line_of (ahead store links c))))))
    (cond (eqb c.left 0) End Bad))

-- a buffer with the line, without its LF, at the front: 255 bytes of it, and as many as the buffer has room for
unfoldable pub lined : List ℕ → List ℕ → Cursor → List ℕ → List ℕ
lined store links c buffer = sets buffer 0 (take longest_line (line_of (ahead store links c)))
