-- The answers in words, the line of a call, the mark under a line that is refused, what is left where there is no room, and whether something fits.
-- Assumes nothing.
use Rattle.std.specs.Prelude.{ℕ, ◌+◌, min, Bool, cond, List, [], ◌++◌, length, replicate}
use Prim.Native.Char.{code}
use Rattle.kinds.specs.Text.{bytes}
use Rattle.store.specs.Chain.{free_count}
use Rattle.store.specs.Entry.{entries}
use Rattle.room.specs.Room.{empty_count}
use Rattle.writing.specs.Writing.{decimal}
use Rattle.sentences.specs.Texts.{numbered}
use Rattle.answers.specs.Answers.{number_of, place_of, is_taken}
use Rattle.answers.specs.declared.Answer.{Answer}
use Rattle.answers.specs.declared.Answer.TheVariants.{
  Taken,
  Lengths,
  Font,
  Unsound,
  Unended,
  Long,
  Unwritten,
  Limits,
  Owing,
  Misplaced,
  InUse,
  Missing,
  Again,
  Undeclared,
  Past,
  Unfit,
  Illegal,
  Misfit,
  Unset,
  RunsOut,
  FewPortions,
  NoEntry,
  Overlong,
  NoneOwed,
}

-- the table of answers, in words
unfoldable pub words_of : Answer → List ℕ
words_of Taken = bytes "taken"
words_of Lengths = bytes "a lent length is wrong"
words_of Font = bytes "the font breaks its rules"
words_of Unsound = bytes "the store is not sound"
words_of Unended = bytes "the line has no end, or a GM lacks its bytes"
words_of Long = bytes "no line end in the first 256 bytes"
words_of (Unwritten p) = bytes "the line has not the written form"
words_of (Limits p) = bytes "a number, name or prompt outside its limits"
words_of Owing = bytes "a command while labels are owed"
words_of Misplaced = bytes "the command has no place here"
words_of InUse = bytes "name in use"
words_of Missing = bytes "name not found"
words_of (Again p) = bytes "declared before in this form"
words_of (Undeclared p) = bytes "variable or counter not declared"
words_of (Past p) = bytes "a modifier reaches past the declared length"
words_of (Unfit p) = bytes "unfit data"
words_of Illegal = bytes "not a legal picture"
words_of Misfit = bytes "value does not fit its declaration"
words_of Unset = bytes "P while a declared value is unset"
words_of RunsOut = bytes "a counter runs out"
words_of FewPortions = bytes "too few free portions"
words_of NoEntry = bytes "no empty entry"
words_of Overlong = bytes "the listing exceeds the output"
words_of NoneOwed = bytes "no label is owed"

-- `line K: `
unfoldable pub lead_of : ℕ → List ℕ
lead_of k = numbered (bytes "line ") k ++ bytes ": "

-- `A, `
unfoldable pub number_word : Answer → List ℕ
number_word a = decimal (number_of a) ++ bytes ", "

-- `A, WORDS: `
unfoldable pub reason_of : Answer → List ℕ
reason_of a = number_word a ++ (words_of a ++ bytes ": ")

-- `line K: A, WORDS: LINE`
unfoldable pub said_of : ℕ → Answer → List ℕ → List ℕ
said_of k a line = lead_of k ++ (reason_of a ++ (line ++ bytes "\n"))

-- n spaces
abbrev pub blanks : ℕ → List ℕ
blanks n = replicate n (code " ")

-- paper 02, §2: "A refusal should point": the same lead again, and a mark under the byte at the answer's place; "a line is up to 255 bytes", so that no place
-- of a line is past 255
unfoldable pub mark_of : ℕ → Answer → List ℕ
mark_of k a = lead_of k ++ (blanks (length (reason_of a) + min 255 (place_of a)) ++ bytes "^\n")

-- `N of M`, and what these are
unfoldable pub share_of : ℕ → ℕ → List ℕ → List ℕ
share_of n m text = numbered [] n ++ (numbered (bytes " of ") m ++ text)

-- how much is left of both: `F of P portions are free, E of D entries are empty`
unfoldable pub shares_of : List ℕ → List ℕ → List ℕ
shares_of links directory =
    share_of (free_count links) (length links) (bytes " portions are free, ") ++ share_of (empty_count directory) (entries directory) (bytes " entries are empty\n")

-- paper 02, §5: "Which kind of full?": the same lead again, and how much is left
unfoldable pub left_of : ℕ → List ℕ → List ℕ → List ℕ
left_of k links directory = lead_of k ++ shares_of links directory

-- paper 02, §7: "Will it fit?": what is asked for leads, `form NAME: ` or `picture NAME, SIZE bytes: `, the name as it was given
unfoldable pub asked_of : Bool → List ℕ → ℕ → List ℕ
asked_of picture name size =
    cond picture
    (bytes "picture " ++ (name ++ (numbered (bytes ", ") size ++ bytes " bytes: ")))
    (bytes "form " ++ (name ++ bytes ": "))

-- the words of its answer: those of the table, but nothing was taken
unfoldable pub fit_words : Answer → List ℕ
fit_words a = cond (is_taken a) (bytes "it fits") (words_of a)

-- `form NAME: A, WORDS`
unfoldable pub fits_of : Bool → List ℕ → ℕ → Answer → List ℕ
fits_of picture name size a = asked_of picture name size ++ (number_word a ++ (fit_words a ++ bytes "\n"))

-- the same lead again, and how much is left
unfoldable pub fits_left_of : Bool → List ℕ → ℕ → List ℕ → List ℕ → List ℕ
fits_left_of picture name size links directory = asked_of picture name size ++ shares_of links directory
