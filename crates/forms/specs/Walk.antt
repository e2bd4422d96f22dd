-- Serves the code alone: a walk over a form, what is still to be read, and what was found. The functions on a whole form are proved to answer by the
-- definitions of Form.
-- Assumes nothing.
use Rattle.std.specs.Prelude.{ℕ, Bool, ◌&&◌, List, length, eqb}
use Rattle.declarations.specs.declared.Declared.{Declared}
use Rattle.declarations.specs.Declarations.{nothing}
use Rattle.contents.specs.declared.Cursor.{Cursor}
use Rattle.contents.specs.Content.{ahead, cursor_at}
use Rattle.content_lines.specs.Lines.{lines_of}
use Rattle.forms.specs.Form.{takes_all, declared_by, has_all}
use Rattle.forms.specs.declared.Walk.{Walk}

-- a walk at the start of the form of entry i
abbrev pub started : List ℕ → List ℕ → ℕ → Walk
started links directory i = record { place = cursor_at links directory i; declared = nothing }

abbrev pub left_of : List ℕ → List ℕ → Walk → List ℕ
left_of store links w = ahead store links w.place

-- whether the rest of a form is good after the declarations d
unfoldable pub rest_ok : Declared → List ℕ → Bool
rest_ok d bytes = eqb (length (lines_of bytes).rest) 0 && takes_all d (lines_of bytes).whole

abbrev pub walk_ok : List ℕ → List ℕ → Walk → Bool
walk_ok store links w = rest_ok w.declared (left_of store links w)

abbrev pub walk_declared : List ℕ → List ℕ → Walk → Declared
walk_declared store links w = declared_by w.declared (lines_of (left_of store links w)).whole

-- of a reader, which needs no declarations
abbrev pub walk_has : List ℕ → List ℕ → List ℕ → Cursor → Bool
walk_has store links directory place = has_all directory (lines_of (ahead store links place)).whole
