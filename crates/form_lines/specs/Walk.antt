-- Serves the code alone: a form's lines as they are read, one after another. What is said of a whole form stands in `forms/Form` and `form_drawing/Draw`.
-- Assumes nothing.
use Rattle.std.specs.Prelude.{ℕ, suc, cond, ◌&&◌, List, [], length, drop, leb, ltb}
use Rattle.content_lines.specs.Lines.{line_of}

-- the first line of some bytes. What no form may have, a line of more than 255 bytes or bytes with no LF, is as an empty line
unfoldable pub line_in : List ℕ → List ℕ
line_in a = cond (ltb (length (line_of a)) (length a) && leb (length (line_of a)) 255) (line_of a) []

-- what stands behind the first LF
unfoldable pub behind : List ℕ → List ℕ
behind a = drop (suc (length (line_of a))) a
