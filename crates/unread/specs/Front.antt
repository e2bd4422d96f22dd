-- The front of the input: what a call answers there, how much of the input it reads, and the line in it.
-- Assumes nothing.
use Rattle.std.specs.Prelude.{ℕ, ◌+◌, ◌-◌, Bool, true, false, ◌&&◌, cond, List, take, drop, leb}
use Rattle.front.specs.declared.Front.{Front}
use Rattle.front.specs.declared.Front.TheVariants.{Short, Long as LongLine, Idle, Line}
use Rattle.front.specs.Front.{front_of}
use Rattle.answers.specs.declared.Answer.{Answer}
use Rattle.answers.specs.declared.Answer.TheVariants.{Taken, Unended, Long}
use Rattle.answers.specs.Answers.{number_of}

-- the line at the front of the input, and what follows it up to k bytes read
abbrev pub line_of : List ℕ → ℕ → List ℕ
line_of input n = take n input

abbrev pub more_of : List ℕ → ℕ → ℕ → List ℕ
more_of input n k = take (k - (n + 1)) (drop (n + 1) input)

-- ---- the front of the input, each case by the paper's answer and by how many bytes are read

-- [4] "fewer than 256 bytes and no LF; or a well-formed GM lacks its bytes", [5] "no LF in the first 256 bytes"; "Empty and `;` lines pass over 6
-- onward", and any other line is left to its own rows
abbrev pub front_answer : Front → Answer
front_answer Short = Unended
front_answer (LongLine k) = Long
front_answer (Idle k) = Taken
front_answer (Line n k) = Taken

-- "Answers 1 to 4 read nothing. Answer 5 reads through the first LF, or everything if there is none. Others read the line, and for a well-formed GM
-- also its n bytes"
abbrev pub front_read : Front → ℕ
front_read Short = 0
front_read (LongLine k) = k
front_read (Idle k) = k
front_read (Line n k) = k

-- "Answers 1 to 4 read nothing"; what others read, the front of the input says
unfoldable pub read_by : Answer → List ℕ → ℕ
read_by a input = cond (leb 1 (number_of a) && leb (number_of a) 4) 0 (front_read (front_of input))

-- whether a line that is not idle stands there whole, and its length
abbrev pub is_line : Front → Bool
is_line Short = false
is_line (LongLine k) = false
is_line (Idle k) = false
is_line (Line n k) = true

abbrev pub line_in : Front → ℕ
line_in Short = 0
line_in (LongLine k) = 0
line_in (Idle k) = 0
line_in (Line n k) = n
