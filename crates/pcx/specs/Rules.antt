-- Legal pictures and the bytes that their runs give, in the order of paper 01, "Pictures", and by the ZSoft PCX description that it names.
-- A byte past the end reads as 0; a word is two bytes, the low one first.
-- Assumes nothing.
use Rattle.std.specs.Prelude.{ℕ, ◌+◌, ◌-◌, ◌*◌, ◌%◌, Bool, true, not, cond, ◌&&◌, List, [], ◌∷◌, ◌++◌, length, get_or, drop, replicate, leb, ltb, eqb}

abbrev pub word : List ℕ → ℕ → ℕ
word bytes at = get_or bytes at 0 + get_or bytes (at + 1) 0 * 256

-- ---- the header
-- the bytes before the runs: "From byte 128"
abbrev pub header_bytes : ℕ
header_bytes = 128

-- "129 to 32,768 bytes"
abbrev pub sized : List ℕ → Bool
sized bytes = leb 129 (length bytes) && leb (length bytes) 32768

-- "byte 0 is 10"
abbrev pub ten : List ℕ → Bool
ten bytes = eqb (get_or bytes 0 0) 10

-- "byte 1 is 0, 2, 3, 4 or 5": up to 5, and not 1
abbrev pub version : List ℕ → Bool
version bytes = leb (get_or bytes 1 0) 5 && not (eqb (get_or bytes 1 0) 1)

-- "bytes 2, 3, 65 are 1"
abbrev pub ones : List ℕ → Bool
ones bytes = eqb (get_or bytes 2 0) 1 && (eqb (get_or bytes 3 0) 1 && eqb (get_or bytes 65 0) 1)

-- "Maxima (8, 10) not below minima (4, 6)"
abbrev pub ordered : List ℕ → Bool
ordered bytes = leb (word bytes 4) (word bytes 8) && leb (word bytes 6) (word bytes 10)

-- width and height are maximum less minimum, and one
abbrev pub width : List ℕ → ℕ
width bytes = word bytes 8 - word bytes 4 + 1

abbrev pub height : List ℕ → ℕ
height bytes = word bytes 10 - word bytes 6 + 1

-- "width up to 2,048, height up to 4,000"
abbrev pub measured : List ℕ → Bool
measured bytes = leb (width bytes) 2048 && leb (height bytes) 4000

-- how many bytes a line has
abbrev pub line_bytes : List ℕ → ℕ
line_bytes bytes = word bytes 66

-- "bytes per line (66) even, up to 256, enough for the width"
abbrev pub lined : List ℕ → Bool
lined bytes = eqb (line_bytes bytes % 2) 0 && (leb (line_bytes bytes) 256 && leb (width bytes) (line_bytes bytes * 8))

-- all that the header is to say
unfoldable pub headed : List ℕ → Bool
headed bytes = sized bytes && (ten bytes && (version bytes && (ones bytes && (ordered bytes && (measured bytes && lined bytes)))))

-- ---- the runs
-- "From byte 128: 192 or more is a run of its low six bits, next byte the value; else itself." The file's bytes are read one at a time: n is the run
-- that waits for its value, and 0 where none waits.
-- How often the byte b is given: as often as its run says, once where it stands for itself, and not where it starts a run
unfoldable pub times : ℕ → ℕ → ℕ
times n b = cond (eqb n 0) (cond (ltb b 192) 1 0) n

-- the run that waits after the byte b
unfoldable pub next : ℕ → ℕ → ℕ
next n b = cond (eqb n 0) (cond (ltb b 192) 0 (b % 64)) 0

-- the bytes that the file's bytes give
unfoldable pub given : ℕ → List ℕ → List ℕ
given n [] = []
given n (b ∷ bs) = replicate (times n b) b ++ given (next n b) bs

-- "A run of 0 is illegal": the byte b starts one
unfoldable pub empty_run : ℕ → ℕ → Bool
empty_run n b = eqb n 0 && eqb b 192

unfoldable pub no_empty_run : ℕ → List ℕ → Bool
no_empty_run n [] = true
no_empty_run n (b ∷ bs) = not (empty_run n b) && no_empty_run (next n b) bs

-- the run that waits where the file ends
unfoldable pub waiting : ℕ → List ℕ → ℕ
waiting n [] = n
waiting n (b ∷ bs) = waiting (next n b) bs

abbrev pub body : List ℕ → List ℕ
body bytes = drop header_bytes bytes

-- "Runs give exactly line bytes times height and end the file": none waits for its value there. A run across lines is as any other
unfoldable pub filled : List ℕ → ℕ → Bool
filled runs total = no_empty_run 0 runs && (eqb (waiting 0 runs) 0 && eqb (length (given 0 runs)) total)

-- a legal picture
unfoldable pub legal : List ℕ → Bool
legal bytes = headed bytes && filled (body bytes) (line_bytes bytes * height bytes)

-- ---- the decoded picture
-- the bytes of its lines, line after line from the top
abbrev pub decoded : List ℕ → List ℕ
decoded bytes = given 0 (body bytes)

-- byte k of line v
abbrev pub line_byte : List ℕ → ℕ → ℕ → ℕ
line_byte bytes v k = get_or (decoded bytes) (v * line_bytes bytes + k) 0

-- what the run that covers the place k says: the first byte's, where that is given more than k times, and else the run's that covers what is left of k
-- in the bytes after it. The law `line-byte` says that this is what stands in the decoded picture
unfoldable pub covering : ℕ → List ℕ → ℕ → ℕ
covering n [] k = 0
covering n (b ∷ bs) k = cond (ltb k (times n b)) b (covering (next n b) bs (k - times n b))
