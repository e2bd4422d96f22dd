-- Paper 02, §2: "Refusals: numbers and order as before". The table of a command call, its line read as it was before refusals pointed.
-- Assumes nothing.
use Rattle.std.specs.Prelude.{ℕ, true, List, [], ◌∷◌}
use Rattle.front.specs.declared.Front.{Front}
use Rattle.front.specs.declared.Front.TheVariants.{Short, Long as LongLine, Idle, Line}
use Rattle.front.specs.Front.{front_of}
use Rattle.pointing.specs.Base.{plain_read_of}
use Rattle.session.specs.declared.Session.{Session}
use Rattle.answers.specs.Answers.{Row, row}
use Rattle.lent.specs.Lent.{World, rows_of, wrong_lent}
use Rattle.commands.specs.Rows.{line_rows}
use Rattle.unread.specs.Front.{line_of, more_of, front_answer}
use Rattle.keeps_sound.specs.Table.{entry_rows}

-- 4 and 5 by the front of the input, and from 6 on by the line in it
abbrev pub rows_before : World → Session → List ℕ → ℕ → Front → List Row
rows_before w s input room Short = row (front_answer Short) true ∷ []
rows_before w s input room (LongLine k) = row (front_answer (LongLine k)) true ∷ []
rows_before w s input room (Idle k) = []
rows_before w s input room (Line n k) = line_rows w s (line_of input n) (more_of input n k) room (plain_read_of (rows_of w) (line_of input n))

-- the table of a command call
abbrev pub table_before : Session → List ℕ → World → ℕ → List ℕ → List Row
table_before s font w room input = entry_rows (wrong_lent w) font s w (rows_before w s input room (front_of input))
