-- This serves the code alone: the rows of the table `forms` as the code keeps them, each with the letters of its bounds (crate `bounds`).
-- Assumes nothing.
use Rattle.std.specs.Prelude.{ℕ, List, [], ◌∷◌, ◌++◌, get_or, take, replicate}
use Prim.Native.Char.{code}
use Rattle.kinds.specs.Text.{bytes}
use Rattle.grammar.specs.Forms.{row_of}

-- a letter for each byte of each form of the table `forms`
abbrev pub codes : List (List ℕ)
codes =
    bytes "-N-l"
    ∷ bytes "-m"
    ∷ bytes "-j-k"
    ∷ bytes "--"
    ∷ bytes "--"
    ∷ bytes "--a-a-b-b"
    ∷ bytes "--a-a-b-b"
    ∷ bytes "--a-a-b-b"
    ∷ bytes "-a-c-d-a-c"
    ∷ bytes "-a-c-e-f-g----"
    ∷ bytes "-a-c-e---f-h-i----"
    ∷ bytes "--a-c-q"
    ∷ bytes "--q"
    ∷ bytes "--"
    ∷ bytes "--q"
    ∷ bytes "--q"
    ∷ bytes "--q"
    ∷ bytes "--"
    ∷ bytes "--"
    ∷ bytes "--q"
    ∷ bytes "--q-r"
    ∷ bytes "--"
    ∷ bytes "-n-o---p"
    ∷ bytes "-n-g-s-p"
    ∷ bytes "--n--"
    ∷ bytes "--n-v"
    ∷ bytes "-t"
    ∷ bytes "-"
    ∷ bytes "--a-c-d-a-c"
    ∷ bytes "---a-c-d-a-c"
    ∷ bytes "---a-c-d-a-c"
    ∷ bytes "--u-w-x-y-z-z"
    ∷ bytes "---"
    ∷ bytes "---"
    ∷ []

abbrev pub code_at : ℕ → ℕ → ℕ
code_at row i = get_or (get_or codes row []) i (code "-")

-- eighteen bytes, filled up with one that stands for no field and no bounds
abbrev pub filled_up : ℕ → List ℕ → List ℕ
filled_up b l = take 18 (l ++ replicate 18 b)

-- the form of a row and the letters of its bounds, one behind the other
unfoldable pub line_up : ℕ → List ℕ
line_up row = filled_up (code " ") (row_of row).fields ++ filled_up (code "-") (get_or codes row [])
