-- What the demands speak of: calls one after another, each given the session that the call before it answered, and the lent memory as that call left it.
-- Assumes nothing.
use Rattle.std.specs.Prelude.{◌≡◌, List, [], ◌∷◌, ℕ, ◌*◌}
use Rattle.cells.specs.Cell.{zeros}
use Rattle.dots.specs.Dots.{bytes_a_row}
use Rattle.memory.specs.Memory.{Memory}
use Rattle.answers.specs.declared.Answer.TheVariants.{Taken}
use Rattle.session.specs.declared.Session.{Session}
use Rattle.results.specs.World.{State, state}
use Rattle.calls.specs.Station.{opened, commanded, labelled_by}
use Rattle.clock_call.specs.Passing.{passed}
use Rattle.lent.specs.Lent.{World, world}
use Rattle.repair.specs.Repair.{Repaired, repaired}

-- a command call with its font, output and input, a label call with its font and page, or a clock call with the seconds that passed
pub data Call : Type 0 where
  command : List ℕ → List ℕ → List ℕ → Call
  label : List ℕ → List ℕ → Call
  pass : ℕ → Call

abbrev pub called : State → Call → State
called st (command font output input) =
    state (commanded st.session font st.world output input).outcome.session (commanded st.session font st.world output input).world
called st (label font page) = state (labelled_by st.session font st.world page).outcome.session st.world
called st (pass seconds) = state (passed st.session seconds).session st.world

-- what calls leave, one after another
abbrev pub through : State → List Call → State
through st [] = st
through st (c ∷ cs) = through (called st c) cs

-- what opening leaves
abbrev pub opened_state : List ℕ → World → State
opened_state page w = state (opened page w).outcome.session (opened page w).world

-- what a repair leaves (paper 02, §11), with what it is for: "a page of N rows with a white background"
abbrev pub besides : ℕ → Repaired → State
besides rows r =
    state r.outcome.session (world (zeros (rows * bytes_a_row)) r.memory.store r.memory.links r.memory.directory r.values)

abbrev pub repaired_state : Session → ℕ → Memory → List ℕ → List ℕ → State
repaired_state s rows m values output = besides rows (repaired s rows m values output)

-- what a session starts from: an opening with its page and lists, or a repair with the session before it, N, and its lists
pub data Start : Type 0 where
  opens : List ℕ → World → Start
  repairs : Session → ℕ → Memory → List ℕ → List ℕ → Start

-- it is taken
abbrev pub Begins : Start → Type 0
Begins (opens page w) = (opened page w).outcome.answer ≡ Taken
Begins (repairs s rows m values output) = (repaired s rows m values output).outcome.answer ≡ Taken

-- and what it leaves
abbrev pub started_state : Start → State
started_state (opens page w) = opened_state page w
started_state (repairs s rows m values output) = repaired_state s rows m values output
