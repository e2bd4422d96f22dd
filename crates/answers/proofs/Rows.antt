-- The first row of a table that applies.
-- Assumes nothing.
use mathlib.Core.Path.{◌≡◌}
use mathlib.Core.Bool.{Bool, true, false}
use mathlib.Core.List.{List, ◌∷◌}
use Rattle.answers.specs.declared.Answer.{Answer}
use Rattle.answers.specs.Answers.{Row, row, answer_of}

pub answer-skip : (a : Answer) (b : Bool) (rs : List Row) → b ≡ false → answer_of (row a b ∷ rs) ≡ answer_of rs
unfolding answer_of
answer-skip a b rs e = rw e

pub answer-stop : (a : Answer) (b : Bool) (rs : List Row) → b ≡ true → answer_of (row a b ∷ rs) ≡ a
unfolding answer_of
answer-stop a b rs e = rw e
