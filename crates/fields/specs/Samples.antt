-- Texts, bar types and what stands under bars, of the papers' lines, and what reading them gives: antt computes each.
-- Assumes nothing.
use Rattle.std.specs.Prelude.{◌≡◌, refl, Ok, Err}
use Prim.Native.Char.{code}
use Rattle.kinds.specs.Bytes.{between}
use Rattle.kinds.specs.Text.{bytes}
use Rattle.classes.specs.Bytes.{run}
use Rattle.classes.specs.declared.Class.TheVariants.{Mode}
use Rattle.fields.specs.Field.{text_at, letter_at, type_at, under_at}

-- a quoted text may be empty; one that does not end is at fault at the LF
empty : text_at (bytes "FS\"\"") 2 ≡ Ok (0, 4)
unfolding text_at run between
empty = refl

unclosed : text_at (bytes "FS\"AB") 2 ≡ Err 5
unfolding text_at run between
unclosed = refl

-- a bar type is one of the four words
ean : type_at (bytes "E30,") 0 ≡ Ok (30, 3)
unfolding type_at
ean = refl

lower : type_at (bytes "e30,") 0 ≡ Err 0
unfolding type_at
lower = refl

-- `B,C0` is the data `C0`, `B,C,C0` is centred
line : under_at (bytes "B,C0") 0 ≡ Ok (code "B", 1)
unfolding under_at
line = refl

centred : under_at (bytes "B,C,C0") 0 ≡ Ok (code "C", 3)
unfolding under_at
centred = refl

right : under_at (bytes "B,R,\"R\"") 0 ≡ Ok (code "R", 3)
unfolding under_at
right = refl

-- L is no place, `N` has none, and case counts: what follows such a word is no data, and a small letter is no word
no_place : under_at (bytes "B,L,\"L\"") 0 ≡ Ok (code "B", 1)
unfolding under_at
no_place = refl

unplaced : under_at (bytes "N,C,C0") 0 ≡ Ok (code "N", 1)
unfolding under_at
unplaced = refl

small-letter : under_at (bytes "b,C0") 0 ≡ Err 0
unfolding under_at
small-letter = refl

-- a word runs to the next comma: where it is another word, its first byte is at fault
doubled : letter_at Mode (bytes ",NN,") 1 ≡ Err 1
unfolding letter_at
doubled = refl

longer-type : type_at (bytes ",3C,") 1 ≡ Err 1
unfolding type_at
longer-type = refl

shorter-type : type_at (bytes ",E3,") 1 ≡ Err 1
unfolding type_at
shorter-type = refl

joined : under_at (bytes ",BC,") 1 ≡ Err 1
unfolding under_at
joined = refl

-- the line ends within `E30`, and where a comma would make a place of `C` or `R`: the LF is at fault
cut-type : type_at (bytes ",E3") 1 ≡ Err 3
unfolding type_at
cut-type = refl

cut-centred : under_at (bytes ",B,C") 1 ≡ Err 4
unfolding under_at
cut-centred = refl

cut_right : under_at (bytes ",B,R") 1 ≡ Err 4
unfolding under_at
cut_right = refl
