-- "each form a row of normalised lines that recording would take one after another (presence of pictures aside); each picture legal"
-- Assumes nothing.
use Rattle.std.specs.Prelude.{ℕ, Bool, true, false, not, ◌&&◌, ◌||◌, List}
use Rattle.cells.specs.Count.{all_to}
use Rattle.store.specs.Entry.{entries, entry, kind, of_kind}
use Rattle.contents.specs.Content.{content}
use Rattle.pcx.specs.Rules.{legal}
use Rattle.forms.specs.Form.{form_ok}

-- a picture is "129 to 32,768 bytes": how many bytes the code's buffer holds, and by which `verdicts` judges a size
abbrev pub most_picture : ℕ
most_picture = 32768

-- "each form a row of normalised lines that recording would take one after another (presence of pictures aside)"
abbrev pub form_sound : List ℕ → List ℕ → List ℕ → ℕ → Bool
form_sound store links directory i = not (of_kind false (kind (entry directory i))) || form_ok (content store links directory i)

-- "each picture legal"
abbrev pub picture_sound : List ℕ → List ℕ → List ℕ → ℕ → Bool
picture_sound store links directory i = not (of_kind true (kind (entry directory i))) || legal (content store links directory i)

unfoldable pub content_ok : List ℕ → List ℕ → List ℕ → ℕ → Bool
content_ok store links directory i = form_sound store links directory i && picture_sound store links directory i

unfoldable pub contents_ok : List ℕ → List ℕ → List ℕ → Bool
contents_ok store links directory = all_to (content_ok store links directory) (entries directory)
