-- Texts with numbers in them. Assumes nothing.
use Rattle.std.specs.Prelude.{ℕ, List, ◌++◌}
use Rattle.writing.specs.Writing.{decimal}

-- a text, and after it a number in decimal
abbrev pub numbered : List ℕ → ℕ → List ℕ
numbered text n = text ++ decimal n
