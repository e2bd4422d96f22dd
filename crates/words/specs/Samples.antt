-- A refused line, the mark under it, what is left, and what was asked for: antt computes them.
-- Assumes nothing.
use Rattle.std.specs.Prelude.{true, false, ◌≡◌, refl, ◌++◌, take}
use Rattle.kinds.specs.Text.{bytes}
use Rattle.writing.specs.Writing.{digits}
use Rattle.cells.specs.Cell.{cell}
use Rattle.store.specs.Entry.{bytes_an_entry}
use Rattle.store.specs.Samples.{links, directory}
use Rattle.answers.specs.Answers.{number_of, place_of, is_taken}
use Rattle.answers.specs.declared.Answer.TheVariants.{Taken, Unwritten, InUse, FewPortions, NoEntry}
use Rattle.words.specs.Words.{words_of, lead_of, number_word, reason_of, said_of, mark_of, share_of, shares_of, left_of, asked_of, fit_words, fits_of, fits_left_of}

-- a letter where a comma must stand: the byte at place 3
pointed : said_of 3 (Unwritten 3) (bytes "LO1x2,3,4") ++ mark_of 3 (Unwritten 3) ≡
    bytes "line 3: 6, the line has not the written form: LO1x2,3,4\n" ++
    bytes "line 3:                                          ^\n"
unfolding said_of mark_of lead_of number_word reason_of words_of number_of place_of digits
pointed = refl

-- two of four portions are free, and the one entry is in use
left_over : said_of 7 NoEntry (bytes "FS\"B\"") ++ left_of 7 links (take bytes_an_entry directory) ≡
    bytes "line 7: 23, no empty entry: FS\"B\"\n" ++
    bytes "line 7: 2 of 4 portions are free, 0 of 1 entries are empty\n"
unfolding said_of left_of shares_of share_of lead_of number_word reason_of words_of number_of digits cell
left_over = refl

-- one fits, and nothing is taken; the other's name is in use, and stands as it was given
asked : fits_of true (bytes "LOGO") 4000 Taken ++ fits_of false (bytes "unit") 0 InUse ≡
    bytes "picture LOGO, 4000 bytes: 0, it fits\n" ++
    bytes "form unit: 10, name in use\n"
unfolding fits_of asked_of fit_words number_word words_of number_of is_taken digits
asked = refl

-- three portions are too many
asked-left : fits_of true (bytes "B") 513 FewPortions ++ fits_left_of true (bytes "B") 513 links directory ≡
    bytes "picture B, 513 bytes: 19, too few free portions\n" ++
    bytes "picture B, 513 bytes: 2 of 4 portions are free, 1 of 2 entries are empty\n"
unfolding fits_of fits_left_of shares_of share_of asked_of fit_words number_word words_of number_of is_taken digits cell
asked-left = refl
