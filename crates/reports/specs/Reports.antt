-- What the program says of a label and of a run. Assumes nothing.
use Rattle.std.specs.Prelude.{ℕ, List, [], ◌++◌}
use Rattle.kinds.specs.Text.{bytes}
use Rattle.sentences.specs.Texts.{numbered}

-- `label I of N: NAME`
unfoldable pub which_of : ℕ → ℕ → List ℕ → List ℕ
which_of i n name = numbered (bytes "label ") i ++ (numbered (bytes " of ") n ++ (bytes ": " ++ name))

-- `, W by L dots, B black`
unfoldable pub size_of : ℕ → ℕ → ℕ → List ℕ
size_of width rows black = numbered (bytes ", ") width ++ (numbered (bytes " by ") rows ++ (numbered (bytes " dots, ") black ++ bytes " black\n"))

abbrev pub label_of : ℕ → ℕ → List ℕ → ℕ → ℕ → ℕ → List ℕ
label_of i n name width rows black = which_of i n name ++ size_of width rows black

-- `T lines taken, R refused, L labels drawn`
unfoldable pub sum_of : ℕ → ℕ → ℕ → List ℕ
sum_of taken refused labels =
    numbered [] taken ++ (numbered (bytes " lines taken, ") refused ++ (numbered (bytes " refused, ") labels ++ bytes " labels drawn\n"))
