-- The mark under a refused line.
use mathlib.Core.Path.{◌≡◌, ◌∙◌}
use mathlib.Core.List.{List, [], ◌∷◌, ◌++◌}
use Prim.Native.Nat.{ℕ, ◌+◌, ◌≤◌, min}
use Prim.Native.Char.{code}
use native.Mathlib.Omega.{arith}
use lib.ListN.{length, get_or, length-replicate}
use lib.Seq.{sets, get_or-append-add, get_or_at}
use Rattle.kinds.specs.Text.{bytes}
use Rattle.writing.specs.Writing.{Wrote, digits}
use Rattle.answers.specs.Answers.{number_of, place_of}
use Rattle.answers.specs.declared.Answer.{Answer}
use Rattle.answers.specs.declared.Answer.TheVariants.{
  Taken,
  Lengths,
  Font,
  Unsound,
  Unended,
  Long,
  Unwritten,
  Limits,
  Owing,
  Misplaced,
  InUse,
  Missing,
  Again,
  Undeclared,
  Past,
  Unfit,
  Illegal,
  Misfit,
  Unset,
  RunsOut,
  FewPortions,
  NoEntry,
  Overlong,
  NoneOwed,
}
use Rattle.words.specs.Words.{words_of, lead_of, number_word, reason_of, said_of, blanks, mark_of}

length-blanks : (n : ℕ) → length (blanks n) ≡ n
length-blanks n = length-replicate n (code " ")

-- the mark stands under its byte: what the two lines have there is the mark, and the byte of the refused line, or its LF, at the answer's place
pub mark-under : (k : ℕ) (a : Answer) (line : List ℕ) → place_of a ≤ 255
    → (get_or (mark_of k a) (length (lead_of k) + (length (reason_of a) + place_of a)) 0 ≡ code "^")
    × (get_or (said_of k a line) (length (lead_of k) + (length (reason_of a) + place_of a)) 0 ≡ get_or (line ++ bytes "\n") (place_of a) 0)
unfolding mark_of said_of
mark-under k a line h =
    let n = length (reason_of a) + min 255 (place_of a) in
    let e : length (blanks n) ≡ length (reason_of a) + place_of a = length-blanks n ∙ (omega arith) in
    let mark = get_or-append-add (lead_of k) (blanks n ++ bytes "^\n") (length (reason_of a) + place_of a) 0 ∙ get_or_at (blanks n) (code "^") (code "\n" ∷ []) 0 _ e in
    let byte = get_or-append-add (lead_of k) (reason_of a ++ (line ++ bytes "\n")) (length (reason_of a) + place_of a) 0 ∙ get_or-append-add (reason_of a) (line ++ bytes "\n") (place_of a) 0 in
    (mark, byte)

-- number and words of an answer take at most 64 bytes
pub reason-short : (a : Answer) → length (reason_of a) ≤ 64
unfolding number_word reason_of words_of number_of digits
reason-short Taken = omega arith
reason-short Lengths = omega arith
reason-short Font = omega arith
reason-short Unsound = omega arith
reason-short Unended = omega arith
reason-short Long = omega arith
reason-short (Unwritten p) = omega arith
reason-short (Limits p) = omega arith
reason-short Owing = omega arith
reason-short Misplaced = omega arith
reason-short InUse = omega arith
reason-short Missing = omega arith
reason-short (Again p) = omega arith
reason-short (Undeclared p) = omega arith
reason-short (Past p) = omega arith
reason-short (Unfit p) = omega arith
reason-short Illegal = omega arith
reason-short Misfit = omega arith
reason-short Unset = omega arith
reason-short RunsOut = omega arith
reason-short FewPortions = omega arith
reason-short NoEntry = omega arith
reason-short Overlong = omega arith
reason-short NoneOwed = omega arith

-- blanks stored, and the place after them
pub wrote-blanks : {out o : List ℕ} {at r : ℕ} (n : ℕ) → o ≡ sets out at (blanks n) → r ≡ min (at + n) (length out) → Wrote out at (blanks n) r o
wrote-blanks n s p = record { place = rw (length-blanks n) p; stored = s }
