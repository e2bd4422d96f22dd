-- Paper 01's table for a command call, a row for each line of it that the call can give, in its order.
-- Assumes nothing.
use Rattle.std.specs.Prelude.{ℕ, true, List, [], ◌∷◌}
use Rattle.front.specs.declared.Front.{Front}
use Rattle.front.specs.declared.Front.TheVariants.{Short, Long as LongLine, Idle, Line}
use Rattle.read.specs.Commands.{read_of}
use Rattle.front.specs.Front.{front_of}
use Rattle.session.specs.declared.Session.{Session}
use Rattle.answers.specs.Answers.{Row, row}
use Rattle.lent.specs.Lent.{World, rows_of, wrong_lent}
use Rattle.commands.specs.Rows.{line_rows}
use Rattle.unread.specs.Front.{line_of, more_of, front_answer}
pub use Rattle.labelling.specs.Entry.{entry_rows}
unfoldable pub use Rattle.labelling.specs.Labelling.{label_table}

-- 4 and 5 by the front of the input, and from 6 on by the line in it
abbrev pub front_rows : World → Session → List ℕ → ℕ → Front → List Row
front_rows w s input room Short = row (front_answer Short) true ∷ []
front_rows w s input room (LongLine k) = row (front_answer (LongLine k)) true ∷ []
front_rows w s input room (Idle k) = []
front_rows w s input room (Line n k) = line_rows w s (line_of input n) (more_of input n k) room (read_of (rows_of w) (line_of input n))

-- the table of a command call
unfoldable pub command_table : Session → List ℕ → World → ℕ → List ℕ → List Row
command_table s font w room input = entry_rows (wrong_lent w) font s w (front_rows w s input room (front_of input))
