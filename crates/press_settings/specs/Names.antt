-- Names: of arguments and of files. Assumes nothing.
use Rattle.std.specs.Prelude.{ℕ, List, take}

-- how many bytes there is room for
abbrev pub room : ℕ
room = 4096

-- as much of a text as a name has room for
abbrev pub fitting : List ℕ → List ℕ
fitting text = take room text
