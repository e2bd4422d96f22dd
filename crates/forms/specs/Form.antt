-- "each form a row of normalised lines that recording would take one after another (presence of pictures aside)"
-- Assumes nothing.
use Rattle.std.specs.Prelude.{ℕ, Bool, true, false, ◌&&◌, List, [], ◌∷◌, length, eqb, Option, Some, None}
use Rattle.grammar.specs.declared.Item.{Item}
use Rattle.declarations.specs.declared.Declared.{Declared}
use Rattle.declarations.specs.Declarations.{nothing}
use Rattle.content_lines.specs.Lines.{lines_of}
use Rattle.kept_line.specs.Held.{item_in}
use Rattle.recording.specs.Judged.{judged, declares, is_taken, has_picture}

-- ---- a line of a form

-- "recording would take" it, after the declarations d
abbrev pub takes_stored : Declared → List ℕ → Option Item → Bool
takes_stored d line (Some it) = is_taken (judged d line it)
takes_stored d line None = false

unfoldable pub takes : Declared → List ℕ → Bool
takes d line = takes_stored d line (item_in line)

-- what is declared after a line, and the formats in force
abbrev pub declares_stored : Declared → Option Item → Declared
declares_stored d (Some it) = declares d it
declares_stored d None = d

unfoldable pub declaring : Declared → List ℕ → Declared
declaring d line = declares_stored d (item_in line)

-- ---- its lines, one after another

-- "recording would take one after another"
unfoldable pub takes_all : Declared → List (List ℕ) → Bool
takes_all d [] = true
takes_all d (l ∷ ls) = takes d l && takes_all (declaring d l) ls

-- what is declared after all of them
unfoldable pub declared_by : Declared → List (List ℕ) → Declared
declared_by d [] = d
declared_by d (l ∷ ls) = declared_by (declaring d l) ls

-- the bytes are such lines, and nothing follows the last LF. Paper 02, §10: "each label starts from the example formats, and so does the check of each form"
unfoldable pub form_ok : List ℕ → Bool
form_ok bytes = eqb (length (lines_of bytes).rest) 0 && takes_all nothing (lines_of bytes).whole

-- what a form declares
unfoldable pub declared_of : List ℕ → Declared
declared_of bytes = declared_by nothing (lines_of bytes).whole

-- ---- its pictures

-- a line that holds no item asks for no picture
abbrev pub has_stored : List ℕ → List ℕ → Option Item → Bool
has_stored directory line (Some it) = has_picture directory line it
has_stored directory line None = true

unfoldable pub has_all : List ℕ → List (List ℕ) → Bool
has_all directory [] = true
has_all directory (l ∷ ls) = has_stored directory l (item_in l) && has_all directory ls

-- "the pictures exist"
unfoldable pub pictures_stored : List ℕ → List ℕ → Bool
pictures_stored directory bytes = has_all directory (lines_of bytes).whole
