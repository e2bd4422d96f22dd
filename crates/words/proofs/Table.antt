-- The words of all answers in one text: line by line, and each found by the number of its answer.
use mathlib.Core.Path.{◌≡◌, refl}
use mathlib.Core.List.{List, [], ◌∷◌, ◌++◌}
use Prim.Native.Nat.{ℕ, ◌+◌, ◌-◌, ◌≤◌, ◌<◌}
use Prim.Native.Char.{code}
use native.Mathlib.Nat.{zero-add}
use native.Mathlib.Numerals.{add-one}
use lib.Dec.{eqb}
use mathlib.Core.Bool.{cond}
use lib.ListN.{length, get_or, take, drop, drop_of_length-le}
use lib.Seq.{drop-cons}
use borrow.Author.Tests.{eq-eqb, ne_eqb}
use Rattle.classes.specs.Bytes.{run}
use Rattle.classes.specs.declared.Class.TheVariants.{Inside}
use Rattle.answers.specs.Answers.{number_of}
use Rattle.answers.specs.declared.Answer.{Answer}
use Rattle.answers.specs.declared.Answer.TheVariants.{
  Taken,
  Lengths,
  Font,
  Unsound,
  Unended,
  Long,
  Unwritten,
  Limits,
  Owing,
  Misplaced,
  InUse,
  Missing,
  Again,
  Undeclared,
  Past,
  Unfit,
  Illegal,
  Misfit,
  Unset,
  RunsOut,
  FewPortions,
  NoEntry,
  Overlong,
  NoneOwed,
}
use Rattle.words.specs.Words.{words_of}
use Rattle.words.specs.Lines.{lines_left, from_line, line_of}

module _ (text : List ℕ) (i left : ℕ) where
  -- no line is left to be passed
  pub from-here : left ≡ 0 → i < length text → from_line left (drop i text) ≡ drop i text
  unfolding from_line
  from-here e h = rw (drop-cons text i 0 h, e)

  pub from_next : (left ≡ 0 → ⊥) → i < length text → from_line left (drop i text) ≡ from_line (lines_left (get_or text i 0) left) (drop (i + 1) text)
  unfolding from_line
  from_next n h = rw (add-one, drop-cons text i 0 h, ne_eqb left 0 n)

  pub from_end : length text ≤ i → from_line left (drop i text) ≡ drop i text
  unfolding from_line
  from_end h = rw (drop_of_length-le text h)

-- the run of bytes before the line's end is the line
pub line-found : (text : List ℕ) (k from : ℕ) {rest r : List ℕ} {n : ℕ} → rest ≡ drop from text → drop from text ≡ from_line k text → n ≡ 0 + run Inside (drop 0 rest) → r ≡ take n rest → r ≡ line_of k text
line-found text k from p q u v = rw (v, u, zero-add, p, q)

unfoldable pub line : Answer → List ℕ
line a = words_of a ++ (code "\n" ∷ [])

unfoldable pub table : List ℕ
table =
    line Taken ++ (
    line Lengths ++ (
    line Font ++ (
    line Unsound ++ (
    line Unended ++ (
    line Long ++ (
    line (Unwritten 0) ++ (
    line (Limits 0) ++ (
    line Owing ++ (
    line Misplaced ++ (
    line InUse ++ (
    line Missing ++ (
    line (Again 0) ++ (
    line (Undeclared 0) ++ (
    line (Past 0) ++ (
    line (Unfit 0) ++ (
    line Illegal ++ (
    line Misfit ++ (
    line Unset ++ (
    line FewPortions ++ (
    line Overlong ++ (
    line NoneOwed ++ (
    line RunsOut ++ (
    line NoEntry)))))))))))))))))))))))

pub words-line : (a : Answer) → line_of (number_of a) table ≡ words_of a
unfolding table line words_of number_of from_line run
words-line Taken = refl
words-line Lengths = refl
words-line Font = refl
words-line Unsound = refl
words-line Unended = refl
words-line Long = refl
words-line (Unwritten p) = refl
words-line (Limits p) = refl
words-line Owing = refl
words-line Misplaced = refl
words-line InUse = refl
words-line Missing = refl
words-line (Again p) = refl
words-line (Undeclared p) = refl
words-line (Past p) = refl
words-line (Unfit p) = refl
words-line Illegal = refl
words-line Misfit = refl
words-line Unset = refl
words-line RunsOut = refl
words-line FewPortions = refl
words-line NoEntry = refl
words-line Overlong = refl
words-line NoneOwed = refl
