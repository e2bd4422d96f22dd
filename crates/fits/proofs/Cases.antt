-- Whether it fits, computed: four portions of which two are free, a form "A" in the first of two entries, the second empty. Each list of answers has a row's own side
-- and its other side.
-- Assumes nothing.
use Rattle.std.specs.Prelude.{ℕ, ◌≡◌, refl, List, [], ◌∷◌, replicate, set}
use Prim.Native.Char.{code}
use Rattle.kinds.specs.Bytes.{between}
use Rattle.kinds.specs.Text.{bytes}
use Rattle.parts.specs.Names.{capital}
use Rattle.cells.specs.Cell.{cell}
use Rattle.cells.specs.Scan.{lowest_from}
use Rattle.store.specs.Chain.{end_link}
use Rattle.store.specs.Entry.{name}
use Rattle.store.specs.Samples.{links, directory}
use Rattle.finding.specs.Find.{found}
use Rattle.answers.specs.Answers.{answer_of, number_of}
use Rattle.lent.specs.Lent.{links_wrong, directory_wrong}
use Rattle.fits.specs.Names.{name_wrong, bears, in_use}
use Rattle.fits.specs.Fits.{lent_wrong, size_wrong, limits_wrong, fit_rows}

unfoldable given : ℕ → List ℕ → List ℕ → ℕ → List ℕ → ℕ → ℕ
given owed ls dir kind n size = number_of (answer_of (fit_rows owed ls dir kind n size))

-- of that memory, with nothing owed
unfoldable form : List ℕ → ℕ → ℕ
form n size = given 0 links directory 1 n size

unfoldable picture : List ℕ → ℕ → ℕ
picture n size = given 0 links directory 2 n size

-- "ignores a form's size", which needs one portion; a picture of 512 bytes needs both, one of 513 three
sizes : form (bytes "B") 0 ∷ form (bytes "B") 70000 ∷ picture (bytes "B") 1 ∷ picture (bytes "B") 512 ∷ picture (bytes "B") 513 ∷ [] ≡ 0 ∷ 0 ∷ 0 ∷ 0 ∷ 19 ∷ []
unfolding form picture given number_of answer_of links_wrong directory_wrong lent_wrong limits_wrong name_wrong size_wrong between capital bears in_use found lowest_from cell name
sizes = refl

-- 1: no link, half an entry more
lengths : given 0 [] directory 1 (bytes "B") 0 ∷ given 0 links (replicate 24 0) 1 (bytes "B") 0 ∷ [] ≡ 1 ∷ 1 ∷ []
unfolding given number_of answer_of links_wrong directory_wrong lent_wrong limits_wrong name_wrong size_wrong between capital bears in_use found lowest_from cell name
lengths = refl

-- 7: nothing that is stored is of kind 0, 3 or 4 for whoever asks
kinds : given 0 links directory 0 (bytes "B") 1 ∷ given 0 links directory 3 (bytes "B") 1 ∷ given 0 links directory 4 (bytes "B") 1 ∷ [] ≡ 7 ∷ 7 ∷ 7 ∷ []
unfolding given number_of answer_of links_wrong directory_wrong lent_wrong limits_wrong name_wrong size_wrong between capital bears in_use found lowest_from cell name
kinds = refl

-- 7: no byte, nine, the star, a quote, an LF; eight bytes are a name
names :
    form [] 0 ∷ form (bytes "ABCDEFGHI") 0 ∷ form (bytes "*") 0 ∷ form (bytes "\"") 0 ∷ form (10 ∷ []) 0 ∷ form (bytes "ABCDEFGH") 0 ∷ []
    ≡ 7 ∷ 7 ∷ 7 ∷ 7 ∷ 7 ∷ 0 ∷ []
unfolding form given number_of answer_of links_wrong directory_wrong lent_wrong limits_wrong name_wrong size_wrong between capital bears in_use found lowest_from cell name
names = refl

-- 7: a picture of no bytes, or of more than 32,768; that many are within the limits, and too many for the portions
ends : picture (bytes "B") 0 ∷ picture (bytes "B") 32768 ∷ picture (bytes "B") 32769 ∷ [] ≡ 7 ∷ 19 ∷ 7 ∷ []
unfolding picture given number_of answer_of links_wrong directory_wrong lent_wrong limits_wrong name_wrong size_wrong between capital bears in_use found lowest_from cell name
ends = refl

-- 7 before 8, 8 before 9, 9 before 10: labels are owed, and "A" is being recorded
order : given 1 links (set directory 0 3) 1 [] 0 ∷ given 1 links (set directory 0 3) 1 (bytes "A") 0 ∷ given 0 links (set directory 0 3) 1 (bytes "A") 0 ∷ [] ≡ 7 ∷ 8 ∷ 9 ∷ []
unfolding given number_of answer_of links_wrong directory_wrong lent_wrong limits_wrong name_wrong size_wrong between capital bears in_use found lowest_from cell name
order = refl

-- 10: "case is folded", and a picture may bear a form's name
used : form (bytes "A") 0 ∷ form (bytes "a") 0 ∷ picture (bytes "A") 1 ∷ [] ≡ 10 ∷ 10 ∷ 0 ∷ []
unfolding form picture given number_of answer_of links_wrong directory_wrong lent_wrong limits_wrong name_wrong size_wrong between capital bears in_use found lowest_from cell name
used = refl

-- 10: what fills the entry's name up is not looked at; its length byte is, and 9 is nobody's length
borne :
    given 0 links (set directory 3 (code "Z")) 1 (bytes "A") 0 ∷ given 0 links (set directory 1 2) 1 (bytes "A") 0 ∷ given 0 links (set directory 1 9) 1 (bytes "A") 0 ∷ []
    ≡ 10 ∷ 0 ∷ 0 ∷ []
unfolding given number_of answer_of links_wrong directory_wrong lent_wrong limits_wrong name_wrong size_wrong between capital bears in_use found lowest_from cell name
borne = refl

-- 10 before 19: no link is free
abbrev taken : List ℕ
taken = replicate 4 end_link

used-first : given 0 taken directory 1 (bytes "A") 0 ∷ given 0 taken directory 1 (bytes "B") 0 ∷ [] ≡ 10 ∷ 19 ∷ []
unfolding given number_of answer_of links_wrong directory_wrong lent_wrong limits_wrong name_wrong size_wrong between capital bears in_use found lowest_from cell name
used-first = refl

-- 23: no entry's kind is 0; one of kind 0 is empty whatever else stands in it. 19 before 23
entries :
    given 0 links (set directory 16 2) 1 (bytes "B") 0 ∷ given 0 links (set directory 17 7) 1 (bytes "B") 0 ∷ given 0 taken (set directory 16 2) 1 (bytes "B") 0 ∷ []
    ≡ 23 ∷ 0 ∷ 19 ∷ []
unfolding given number_of answer_of links_wrong directory_wrong lent_wrong limits_wrong name_wrong size_wrong between capital bears in_use found lowest_from cell name
entries = refl
