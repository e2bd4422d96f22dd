-- What is said of small damaged memories, computed: one entry for each verdict; which reason comes first; marks where a portion should be; kinds; the largest picture.
-- Assumes nothing.
use Rattle.std.specs.Prelude.{◌≡◌, refl, List, [], ◌∷◌, ◌++◌, true, false, ℕ, zero, suc, ◌%◌, ◌/◌, take, replicate}
use Prim.Native.Char.{code}
use Rattle.std.proofs.lemmas.List.Edits.{sets}
use Rattle.cells.specs.Cell.{cell, zeros}
use Rattle.cells.specs.Scan.{lowest_from}
use Rattle.store.specs.Chain.{end_link, free_link}
use Rattle.store.specs.Entry.{entries, name, first, size}
use Rattle.finding.specs.Find.{found, same_name, titled}
use Rattle.contents.specs.Content.{portion_after, place_after, bytes_from, extent, content_of}
use Rattle.content_lines.specs.Lines.{lines_of}
use Rattle.memory.specs.Memory.{memory}
use Rattle.store_sound.specs.Sound.{legal_byte, name_byte_ok, name_ok}
use Rattle.content_check.specs.Form.{takes_all, form_ok}
use Rattle.pcx.specs.Rules.{times, next, given, empty_run, no_empty_run, waiting, headed, filled as filled_by, legal}
use Rattle.pcx.specs.Cases.{header, file}
use Rattle.content_check.specs.Contents.{content_ok}
use Rattle.verdicts.specs.Verdicts.{unsaid, kept, for_name, for_chain, for_size, for_shared, for_content, kept_as, name_kept, wrong_name, walked, wrong_size, shared, wrong_content, verdict, filled, noted, judged, unjudged, judged_all}

-- an entry of a kind, with a name of one byte, a first portion and a size
abbrev made : ℕ → ℕ → ℕ → ℕ → List ℕ
made k n p s = k ∷ 1 ∷ n ∷ (replicate 7 0 ++ (p % 256 ∷ p / 256 ∷ s % 256 ∷ s / 256 ∷ 0 ∷ 0 ∷ []))

-- portions 0 and 3 run in a circle; 1, 2 and 4 are chains of one portion; 5 goes on to a free one, 6
abbrev links : List ℕ
links = 3 ∷ end_link ∷ end_link ∷ 0 ∷ end_link ∷ 6 ∷ free_link ∷ []

-- a legal picture in portion 4
abbrev store : List ℕ
store = sets (replicate 1792 0) 1024 file

abbrev said : List ℕ → List ℕ
said directory = take (entries directory) (judged_all (memory store links directory)).verdicts

-- ---- one entry for each verdict

abbrev one-of-each : List ℕ
one-of-each =
    made 1 (code "A") 2 0  -- a form "A" of no lines: kept
    ++ (made 7 (code "B") 1 0  -- no kind: name
    ++ (made 3 (code "A") 1 0  -- the name of a kept form: name
    ++ (made 1 (code "C") 0 0  -- its walk meets portion 0 twice: chain
    ++ (made 2 (code "A") 1 300  -- 300 bytes in one portion: size
    ++ (made 2 (code "A") 2 200  -- a picture in the portion of "A", whose name it may have: shared
    ++ (made 3 (code "D") 1 0  -- an unfinished form: content
    ++ (made 0 (code "E") 1 5  -- empty: nothing is said
    ++ made 1 (code "F") 1 0)))))))  -- a form in a portion of dropped entries: kept

each-verdict : said one-of-each ≡ kept ∷ for_name ∷ for_name ∷ for_chain ∷ for_size ∷ for_shared ∷ for_content ∷ unsaid ∷ kept ∷ []
unfolding judged_all judged unjudged zeros noted verdict wrong_name name_kept kept_as found lowest_from walked wrong_size shared wrong_content content_ok form_ok takes_all lines_of legal headed filled_by titled same_name name name_ok name_byte_ok legal_byte first size cell content_of extent bytes_from portion_after place_after header file given times next empty_run no_empty_run waiting
each-verdict = refl

-- ---- "the first reason to drop it": each entry but the first has the reason that is said and the next one

abbrev two-reasons : List ℕ
two-reasons =
    made 1 (code "A") 2 0  -- kept
    ++ (made 1 (code "a") 0 0  -- a small letter, and a circle: name
    ++ (made 3 (code "B") 0 0  -- a circle, and unfinished: chain
    ++ (made 1 (code "B") 0 300  -- a circle, and too few portions: chain
    ++ (made 1 (code "B") 2 300  -- too few portions, and one in use: size
    ++ made 3 (code "B") 2 0))))  -- a portion in use, and unfinished: shared

first-reason : said two-reasons ≡ kept ∷ for_name ∷ for_chain ∷ for_chain ∷ for_size ∷ for_shared ∷ []
unfolding judged_all judged unjudged zeros noted verdict wrong_name name_kept kept_as found lowest_from walked wrong_size shared wrong_content content_ok form_ok takes_all lines_of legal headed filled_by titled same_name name name_ok name_byte_ok legal_byte first size cell content_of extent bytes_from portion_after place_after header file given times next empty_run no_empty_run waiting
first-reason = refl

-- ---- "a walk that meets a bad or free link": also where it starts

abbrev bad-starts : List ℕ
bad-starts =
    made 1 (code "A") free_link 0
    ++ (made 1 (code "A") end_link 0
    ++ (made 1 (code "A") 7 0  -- there are portions 0 to 6
    ++ (made 1 (code "A") 6 0  -- a free portion
    ++ made 1 (code "A") 5 300)))  -- a free portion behind the first

chain-marks : said bad-starts ≡ for_chain ∷ for_chain ∷ for_chain ∷ for_chain ∷ for_chain ∷ []
unfolding judged_all judged unjudged zeros noted verdict wrong_name name_kept kept_as found lowest_from walked wrong_size shared wrong_content content_ok form_ok takes_all lines_of legal headed filled_by titled same_name name name_ok name_byte_ok legal_byte first size cell content_of extent bytes_from portion_after place_after header file given times next empty_run no_empty_run waiting
chain-marks = refl

-- ---- kinds, and names of dropped entries

abbrev kinds-and-names : List ℕ
kinds-and-names =
    made 3 (code "A") 1 0  -- unfinished: content
    ++ (made 4 (code "A") 1 0  -- there are kinds 0 to 3: name
    ++ (made 2 (code "A") 4 133  -- a legal picture: kept
    ++ (made 1 (code "A") 1 0  -- a form of the name that an unfinished one and a picture have: kept
    ++ (made 2 (code "B") 2 0  -- a picture of no bytes: content
    ++ made 1 (code "B") 2 1))))  -- a byte and no line: content

of-kinds : said kinds-and-names ≡ for_content ∷ for_name ∷ kept ∷ kept ∷ for_content ∷ for_content ∷ []
unfolding judged_all judged unjudged zeros noted verdict wrong_name name_kept kept_as found lowest_from walked wrong_size shared wrong_content content_ok form_ok takes_all lines_of legal headed filled_by titled same_name name name_ok name_byte_ok legal_byte first size cell content_of extent bytes_from portion_after place_after header file given times next empty_run no_empty_run waiting
of-kinds = refl

-- ---- what kept entries take: one more than how many bytes of them lie in a portion

taken : take 7 (judged_all (memory store links kinds-and-names)).fills ≡ 0 ∷ 1 ∷ 0 ∷ 0 ∷ 134 ∷ 0 ∷ 0 ∷ []
unfolding judged_all judged unjudged zeros noted verdict wrong_name name_kept kept_as found lowest_from walked wrong_size shared wrong_content content_ok form_ok takes_all lines_of legal headed filled_by titled same_name name name_ok name_byte_ok legal_byte first size cell content_of extent bytes_from portion_after place_after header file given times next empty_run no_empty_run waiting
taken = refl

-- 300 bytes along portions 2 and 0
two-portions : filled (0 ∷ 0 ∷ 0 ∷ []) (2 ∷ 0 ∷ []) 300 ≡ 45 ∷ 0 ∷ 257 ∷ []
two-portions = refl

-- ---- "a picture over 32768"

-- a chain of portions 0, 1 .. in a row, one more than n from portion p on
abbrev row : ℕ → ℕ → List ℕ
row p zero = end_link ∷ []
row p (suc n) = suc p ∷ row (suc p) n

largest-picture : wrong_size (row 0 127) (made 2 (code "A") 0 32768) ≡ false
unfolding wrong_size walked first size
largest-picture = refl

picture-over : wrong_size (row 0 128) (made 2 (code "A") 0 32769) ≡ true
unfolding wrong_size walked first size
picture-over = refl

form-over : wrong_size (row 0 128) (made 1 (code "A") 0 32769) ≡ false
unfolding wrong_size walked first size
form-over = refl
