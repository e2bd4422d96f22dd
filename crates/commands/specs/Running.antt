-- A line run or recorded: what it leaves of everything that it is lent.
-- Assumes nothing.
use Rattle.std.specs.Prelude.{ℕ, ◌<◌, List, ◌∷◌, length, ltb, Option, Some, None, Result}
use Rattle.read.specs.declared.Fault.{Fault}
use Rattle.grammar.specs.declared.Item.{Item}
use Rattle.grammar.specs.declared.Command.{Command}
use Rattle.read.specs.Commands.{read_of}
use Rattle.normal.specs.Written.{normal}
use Rattle.kept_line.specs.Held.{held_command}
use Rattle.session.specs.declared.Session.{Session}
use Rattle.answers.specs.declared.Answer.TheVariants.{Lengths, Long}
use Rattle.answers.specs.Answers.{Row, row, answer_of}
use Rattle.lent.specs.Lent.{World, rows_of, wrong_lent}
use Rattle.results.specs.Result.{Ran, ran_by}
use Rattle.commands.specs.Rows.{record_rows, run_rows, line_rows}
use Rattle.commands.specs.Does.{records, runs, listed, does_line, lists_line}

-- a command while the form of entry i is recorded, and otherwise
abbrev pub record_by : World → Session → List ℕ → ℕ → List ℕ → Command → Ran
record_by w s line i o c = ran_by (answer_of (record_rows w s line i c)) s w o (records w s line i c) (listed w line c)

abbrev pub run_by : List ℕ → World → Session → List ℕ → List ℕ → List ℕ → Command → Ran
run_by font w s line more o c = ran_by (answer_of (run_rows w s line more (length o) c)) s w o (runs font w s line more c) (listed w line c)

-- a line that was read, by 6, 7 and 8 and what stands after them
abbrev pub ran_read : List ℕ → World → Session → List ℕ → List ℕ → List ℕ → Result Command Fault → Ran
ran_read font w s line more o r =
    ran_by (answer_of (line_rows w s line more (length o) r)) s w o (does_line font w s line more r) (lists_line w line r)

-- a line and the bytes behind it that a GM asks for: "a lent length is wrong" and "A line is up to 255 bytes" come first, whoever calls
unfoldable pub line_table : World → Session → List ℕ → List ℕ → ℕ → List Row
line_table w s line more room =
    row Lengths (wrong_lent w) ∷ row Long (ltb 255 (length line)) ∷ line_rows w s line more room (read_of (rows_of w) line)

unfoldable pub line_by : List ℕ → World → Session → List ℕ → List ℕ → List ℕ → Ran
line_by font w s line more o =
    ran_by (answer_of (line_table w s line more (length o))) s w o (does_line font w s line more (read_of (rows_of w) line))
    (lists_line w line (read_of (rows_of w) line))

-- What serves the code alone: the normal form of an item that was read is a line.
abbrev pub IsStoredShort : Option Item → List ℕ → Type 0
IsStoredShort (Some it) line = length (normal line) < 256
IsStoredShort None line = Unit {0}

abbrev pub IsShort : Command → List ℕ → Type 0
IsShort c line = IsStoredShort (held_command c) line
