-- One field of a line, at a place: its value and the place after it, or Err and the place at fault where it has not the written form.
-- Past the end of a line stands 0, which is no byte of any field.
-- Assumes nothing.
use Rattle.std.specs.Prelude.{ℕ, ◌+◌, Bool, cond, ◌&&◌, ◌||◌, List, length, get_or, leb, ltb, eqb, Result, Ok, Err}
use Prim.Native.Char.{code}
use Rattle.kinds.specs.declared.Kind.{Kind}
use Rattle.kinds.specs.declared.Kind.TheVariants.{Code39, Interleaved, Ean13, Code128}
use Rattle.kinds.specs.declared.Place.TheVariants.{Left, Centre, Right}
use Rattle.kinds.specs.declared.Under.{Under}
use Rattle.kinds.specs.declared.Under.TheVariants.{Nothing, Line}
use Rattle.classes.specs.Bytes.{in_class, run_at}
use Rattle.classes.specs.declared.Class.{Class}
use Rattle.classes.specs.declared.Class.TheVariants.{Quoted}

-- where the reading of a field stopped: behind the field, or at the fault
abbrev pub stop_of : Result (ℕ × ℕ) ℕ → ℕ
stop_of (Ok (v, e)) = e
stop_of (Err p) = p

-- ---- paper 02, §2: "the place .. of the first byte of the field or element at fault .. for a line that ends too soon, the place of its LF"

-- a piece that starts at `at` and goes wrong at q: its first byte is pointed to, or the LF where the line ends within the piece
abbrev pub pointed : List ℕ → ℕ → ℕ → ℕ
pointed s at q = cond (ltb q (length s)) at q

-- a word runs to the next comma: it ends at e where a comma stands there, or the line ends
abbrev pub word_ends : List ℕ → ℕ → Bool
word_ends s e = leb (length s) e || eqb (get_or s e 0) (code ",")

-- the word of value v from `at` to e; where more bytes stand before the comma it is another word, and its first byte is at fault
abbrev pub word_to : List ℕ → ℕ → ℕ → ℕ → Result (ℕ × ℕ) ℕ
word_to s at v e = cond (word_ends s e) (Ok (v, e)) (Err at)

-- ---- the fields

-- where a text that is none goes wrong: at its first byte, or at the LF where the line ends within it
abbrev pub text_fault : List ℕ → ℕ → ℕ
text_fault s at = cond (eqb (get_or s at 0) (code "\"") && leb (length s) (at + 1 + run_at Quoted s (at + 1))) (length s) at

-- quoted text; its value is its length
unfoldable pub text_at : List ℕ → ℕ → Result (ℕ × ℕ) ℕ
text_at s at =
    cond (eqb (get_or s at 0) (code "\"") && eqb (get_or s (at + 1 + run_at Quoted s (at + 1)) 0) (code "\""))
    (Ok (run_at Quoted s (at + 1), at + 1 + run_at Quoted s (at + 1) + 1))
    (Err (text_fault s at))

-- the byte b itself; its value is the byte
unfoldable pub byte_at : ℕ → List ℕ → ℕ → Result (ℕ × ℕ) ℕ
byte_at b s at = cond (ltb at (length s) && eqb (get_or s at 0) b) (Ok (b, at + 1)) (Err at)

-- a word of one letter of a class; its value is the letter
unfoldable pub letter_at : Class → List ℕ → ℕ → Result (ℕ × ℕ) ℕ
letter_at k s at = cond (ltb at (length s) && in_class k (get_or s at 0)) (word_to s at (get_or s at 0) (at + 1)) (Err at)

-- where a bar type that is none goes wrong: at its first byte, or at the LF where the line ends within `E30`
abbrev pub type_fault : List ℕ → ℕ → ℕ
type_fault s at =
    cond (eqb (get_or s at 0) (code "E") && (eqb (length s) (at + 1) || (eqb (get_or s (at + 1) 0) (code "3") && eqb (length s) (at + 2)))) (length s) at

-- a bar type, one of the words `1`, `2`, `3`, `E30`; its value is 1, 2, 3 or 30
unfoldable pub type_at : List ℕ → ℕ → Result (ℕ × ℕ) ℕ
type_at s at =
    cond (eqb (get_or s at 0) (code "1")) (word_to s at 1 (at + 1))
    (cond (eqb (get_or s at 0) (code "2")) (word_to s at 2 (at + 1))
    (cond (eqb (get_or s at 0) (code "3")) (word_to s at 3 (at + 1))
    (cond (eqb (get_or s at 0) (code "E") && (eqb (get_or s (at + 1) 0) (code "3") && eqb (get_or s (at + 2) 0) (code "0"))) (word_to s at 30 (at + 3))
    (Err (type_fault s at)))))

-- what a bar type's data is for
unfoldable pub kind_from : ℕ → Kind
kind_from t = cond (eqb t 3) Code39 (cond (eqb t 2) Interleaved (cond (eqb t 30) Ean13 Code128))

-- ---- paper 02, §1: "B is to take `B` where 01 takes only `N`, and after it an optional `,C` or `,R`"
abbrev pub is_place : ℕ → Bool
is_place b = eqb b (code "C") || eqb b (code "R")

-- whether a place stands between two commas behind the byte at `at`. Data follows the word, so a comma follows the place: `B,C0` is the word `B` and then the
-- data `C0`, and `B,C,C0` the word `B,C`
abbrev pub place_behind : List ℕ → ℕ → Bool
place_behind s at = eqb (get_or s (at + 1) 0) (code ",") && (is_place (get_or s (at + 2) 0) && eqb (get_or s (at + 3) 0) (code ","))

-- whether the line ends where a comma would make the byte before it a place: what would follow decides whether `C` is a place or begins the data, and `R` can
-- be nothing but a place
abbrev pub place_cut : List ℕ → ℕ → Bool
place_cut s at = eqb (get_or s (at + 1) 0) (code ",") && (is_place (get_or s (at + 2) 0) && eqb (length s) (at + 3))

-- the word that starts with a `B`
abbrev pub word_from : List ℕ → ℕ → Result (ℕ × ℕ) ℕ
word_from s at =
    cond (place_behind s at) (Ok (get_or s (at + 2) 0, at + 3))
    (cond (place_cut s at) (Err (length s)) (word_to s at (code "B") (at + 1)))

-- what stands under bars, one of the words `N`, `B`, `B,C`, `B,R`; its value is the word's last letter
unfoldable pub under_at : List ℕ → ℕ → Result (ℕ × ℕ) ℕ
under_at s at = cond (eqb (get_or s at 0) (code "N")) (word_to s at (code "N") (at + 1)) (cond (eqb (get_or s at 0) (code "B")) (word_from s at) (Err at))

-- what a word says: nothing under the bars, or a line; "otherwise left"
unfoldable pub under_from : ℕ → Under
under_from v = cond (eqb v (code "N")) Nothing (cond (eqb v (code "C")) (Line Centre) (cond (eqb v (code "R")) (Line Right) (Line Left)))
