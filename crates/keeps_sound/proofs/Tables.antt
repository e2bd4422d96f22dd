-- A table whose answer is 0: no row applies.
-- Assumes nothing.
use mathlib.Core.Path.{◌≡◌, refl, sym, ap, ◌∙◌}
use mathlib.Core.Bool.{Bool, true, false, not, false≢true}
use mathlib.Core.List.{List, ◌∷◌}
use Rattle.answers.specs.declared.Answer.{Answer}
use Rattle.answers.specs.declared.Answer.TheVariants.{
  Taken,
  Lengths,
  Font,
  Unsound,
  Unended,
  Long,
  Unwritten,
  Limits,
  Owing,
  Misplaced,
  InUse,
  Missing,
  Again,
  Undeclared,
  Past,
  Unfit,
  Illegal,
  Misfit,
  Unset,
  RunsOut,
  FewPortions,
  NoEntry,
  Overlong,
  NoneOwed,
}
use Rattle.answers.specs.Answers.{Row, row, is_taken, answer_of, number_of}

-- the first row does not apply, and the others are clear as well
pub clear : (a : Answer) (b : Bool) (rows : List Row) → is_taken a ≡ false → answer_of (row a b ∷ rows) ≡ Taken → (b ≡ false) × (answer_of rows ≡ Taken)
unfolding answer_of is_taken number_of
clear a true rows n h = absurd (false≢true (sym n ∙ ap is_taken h))
clear a false rows n h = (refl, h)

pub not-no : (b : Bool) → not b ≡ false → b ≡ true
not-no true e = refl
not-no false e = sym e

-- the answer that is taken is 0
pub taken_is : (a : Answer) → is_taken a ≡ true → a ≡ Taken
unfolding is_taken number_of
taken_is Taken e = refl
taken_is Lengths e = absurd (false≢true e)
taken_is Font e = absurd (false≢true e)
taken_is Unsound e = absurd (false≢true e)
taken_is Unended e = absurd (false≢true e)
taken_is Long e = absurd (false≢true e)
taken_is (Unwritten p) e = absurd (false≢true e)
taken_is (Limits p) e = absurd (false≢true e)
taken_is Owing e = absurd (false≢true e)
taken_is Misplaced e = absurd (false≢true e)
taken_is InUse e = absurd (false≢true e)
taken_is Missing e = absurd (false≢true e)
taken_is (Again p) e = absurd (false≢true e)
taken_is (Undeclared p) e = absurd (false≢true e)
taken_is (Past p) e = absurd (false≢true e)
taken_is (Unfit p) e = absurd (false≢true e)
taken_is Illegal e = absurd (false≢true e)
taken_is Misfit e = absurd (false≢true e)
taken_is Unset e = absurd (false≢true e)
taken_is RunsOut e = absurd (false≢true e)
taken_is FewPortions e = absurd (false≢true e)
taken_is NoEntry e = absurd (false≢true e)
taken_is Overlong e = absurd (false≢true e)
taken_is NoneOwed e = absurd (false≢true e)
