-- Paper 01's table: "No. | Given exactly when"; and 22 and 23 of paper 02.
-- Assumes nothing.
use Rattle.std.specs.Prelude.{ℕ, ◌+◌, Bool, cond, ◌&&◌, ◌||◌, List, [], ◌∷◌, eqb, leb, ltb}
use Rattle.answers.specs.declared.Answer.{Answer}
use Rattle.answers.specs.declared.Answer.TheVariants.{
  Taken,
  Lengths,
  Font,
  Unsound,
  Unended,
  Long,
  Unwritten,
  Limits,
  Owing,
  Misplaced,
  InUse,
  Missing,
  Again,
  Undeclared,
  Past,
  Unfit,
  Illegal,
  Misfit,
  Unset,
  RunsOut,
  FewPortions,
  NoEntry,
  Overlong,
  NoneOwed,
}

-- the numbers of the table
unfoldable pub number_of : Answer → ℕ
number_of Taken = 0
number_of Lengths = 1
number_of Font = 2
number_of Unsound = 3
number_of Unended = 4
number_of Long = 5
number_of (Unwritten p) = 6
number_of (Limits p) = 7
number_of Owing = 8
number_of Misplaced = 9
number_of InUse = 10
number_of Missing = 11
number_of (Again p) = 12
number_of (Undeclared p) = 13
number_of (Past p) = 14
number_of (Unfit p) = 15
number_of Illegal = 16
number_of Misfit = 17
number_of Unset = 18
number_of RunsOut = 22
number_of FewPortions = 19
number_of NoEntry = 23
number_of Overlong = 20
number_of NoneOwed = 21

-- paper 02, §2: "For 6, 7 and 12 to 15 the answer also gives the place in the line, from 0 .. Other answers give place 0"
unfoldable pub place_of : Answer → ℕ
place_of Taken = 0
place_of Lengths = 0
place_of Font = 0
place_of Unsound = 0
place_of Unended = 0
place_of Long = 0
place_of (Unwritten p) = p
place_of (Limits p) = p
place_of Owing = 0
place_of Misplaced = 0
place_of InUse = 0
place_of Missing = 0
place_of (Again p) = p
place_of (Undeclared p) = p
place_of (Past p) = p
place_of (Unfit p) = p
place_of Illegal = 0
place_of Misfit = 0
place_of Unset = 0
place_of RunsOut = 0
place_of FewPortions = 0
place_of NoEntry = 0
place_of Overlong = 0
place_of NoneOwed = 0

-- an answer that points to a place in the line: "6, 7 and 12 to 15"
abbrev pub pointing : ℕ → Bool
pointing n = eqb n 6 || (eqb n 7 || (leb 12 n && leb n 15))

unfoldable pub points : Answer → Bool
points a = pointing (number_of a)

-- the order of the table: by number, but 22 "after 18 and before 19" (paper 02, §3) and 23 "directly after 19" (§5). Twice the number, so that one more fits
-- between two
abbrev pub rank : ℕ → ℕ
rank n = cond (eqb n 22) (18 + 19) (cond (eqb n 23) (19 + 20) (n + n))

-- whether answer n stands before answer m in it
abbrev pub earlier : ℕ → ℕ → Bool
earlier n m = ltb (rank n) (rank m)

-- paper 02, §5: "Which kind of full?": 19 or 23
unfoldable pub is_full : Answer → Bool
is_full a = eqb (number_of a) 19 || eqb (number_of a) 23

-- 0: "taken"
unfoldable pub is_taken : Answer → Bool
is_taken a = eqb (number_of a) 0

-- a row of the table: an answer, and whether it applies
pub record Row : Type 0 where
  pub answer : Answer
  pub applies : Bool

abbrev pub row : Answer → Bool → Row
row a b = record { answer = a; applies = b }

-- "The lowest number that applies is given": the rows stand in the table's order, and the first that applies is the answer
unfoldable pub answer_of : List Row → Answer
answer_of [] = Taken
answer_of (r ∷ rs) = cond r.applies r.answer (answer_of rs)
