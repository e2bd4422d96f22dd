-- The three calls: opening and a label call as their own crates say, and a command call.
-- Assumes nothing.
use Rattle.std.specs.Prelude.{ℕ, cond, List, [], length}
use Rattle.front.specs.declared.Front.{Front}
use Rattle.front.specs.declared.Front.TheVariants.{Short, Long as LongLine, Idle, Line}
use Rattle.read.specs.Commands.{read_of}
use Rattle.front.specs.Front.{front_of}
use Rattle.std.proofs.lemmas.List.Edits.{sets}
use Rattle.session.specs.declared.Session.{Session}
use Rattle.answers.specs.declared.Answer.{Answer}
use Rattle.answers.specs.declared.Answer.TheVariants.{Taken}
use Rattle.answers.specs.Answers.{is_taken, answer_of}
use Rattle.lent.specs.Lent.{World, rows_of}
use Rattle.commands.specs.World.{State, state}
use Rattle.calls.specs.Outcomes.{After, after, outcome}
use Rattle.unread.specs.Front.{line_of, more_of, read_by}
use Rattle.calls.specs.Table.{command_table}
use Rattle.commands.specs.Does.{does_line, lists_line}
use Rattle.commands.specs.Result.{Ran}
unfoldable pub use Rattle.opening.specs.Opening.{cleared, opened}
pub use Rattle.session.specs.Label.{turned_by}
unfoldable pub use Rattle.session.specs.Label.{label_page, label_session}
unfoldable pub use Rattle.labelling.specs.Labelling.{labelled_by}

-- what a call that is taken does and lists
abbrev pub does_front : List ℕ → World → Session → List ℕ → Front → State
does_front font w s input Short = state s w
does_front font w s input (LongLine k) = state s w
does_front font w s input (Idle k) = state s w
does_front font w s input (Line n k) = does_line font w s (line_of input n) (more_of input n k) (read_of (rows_of w) (line_of input n))

abbrev pub lists_front : World → List ℕ → Front → List ℕ
lists_front w input Short = []
lists_front w input (LongLine k) = []
lists_front w input (Idle k) = []
lists_front w input (Line n k) = lists_line w (line_of input n) (read_of (rows_of w) (line_of input n))

abbrev pub accepted : ℕ → State → List ℕ → List ℕ → After
accepted n st bytes output = after (outcome Taken st.session n (length bytes)) st.world (sets output 0 bytes)

-- "A refusal leaves session and all lent memory unchanged"
abbrev pub refused : Answer → ℕ → Session → World → List ℕ → After
refused a n s w output = after (outcome a s n 0) w output

-- one command: the first row of the table that applies is the answer; if none does the command is taken
unfoldable pub commanded : Session → List ℕ → World → List ℕ → List ℕ → After
commanded s font w output input =
    let a : Answer = answer_of (command_table s font w (length output) input) in
    cond (is_taken a)
    (accepted (read_by a input) (does_front font w s input (front_of input)) (lists_front w input (front_of input)) output)
    (refused a (read_by a input) s w output)

-- what a line that was run leaves, when k bytes of the input were read
abbrev pub read_as : ℕ → Ran → After
read_as k x = after (outcome x.done.answer x.done.session k x.done.written) x.world x.output
