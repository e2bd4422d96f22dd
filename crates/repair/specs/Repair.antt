-- Paper 02, §11: the call. "Write a tool over a lent store, links, directory and values, for a page of N rows with a white background, that leaves them sound with a
-- session as opening leaves it but for §6's number, and lists what it did .. Refusals: 1, then 20 if the list does not fit, with nothing touched."
-- Assumes nothing.
use Rattle.std.specs.Prelude.{List, [], ◌∷◌, Bool, cond, ℕ, ◌*◌, length, ltb}
use Rattle.std.proofs.lemmas.List.Edits.{sets}
use Rattle.dots.specs.Dots.{bytes_a_row}
use Rattle.cells.specs.Cell.{zeros}
use Rattle.store.specs.Chain.{free_count}
use Rattle.memory.specs.Memory.{Memory}
use Rattle.answers.specs.declared.Answer.{Answer}
use Rattle.answers.specs.declared.Answer.TheVariants.{Taken, Lengths, Overlong}
use Rattle.answers.specs.Answers.{Row, row, is_taken, answer_of}
use Rattle.session.specs.declared.Session.{Session}
use Rattle.session.specs.Session.{fresh}
use Rattle.lent.specs.Lent.{lengths_wrong}
use Rattle.mending.specs.Mending.{mended}
use Rattle.verdict_list.specs.Lines.{listed}
use Rattle.repair.specs.declared.Outcome.{Outcome}

-- what the call leaves: its outcome, the three lists of the memory, the values and the output
pub record Repaired : Type 0 where
  pub outcome : Outcome
  pub memory : Memory
  pub values : List ℕ
  pub output : List ℕ

abbrev pub repaired_by : Outcome → Memory → List ℕ → List ℕ → Repaired
repaired_by r m v o = record { outcome = r; memory = m; values = v; output = o }

abbrev pub outcome : Answer → Session → ℕ → Outcome
outcome a s n = record { answer = a; session = s; written = n }

-- [1]: a lent length is wrong, as it is beside a background of N rows, or N itself, which is 1 to 4,000; [20]: "if the list does not fit"
abbrev pub wrong_for : ℕ → Memory → List ℕ → Bool
wrong_for rows m values = lengths_wrong (rows * bytes_a_row) (length m.store) (length m.links) (length m.directory) (length values)

unfoldable pub repair_rows : ℕ → Memory → List ℕ → List ℕ → List Row
repair_rows rows m values output = row Lengths (wrong_for rows m values) ∷ row Overlong (ltb (length output) (length (listed m))) ∷ []

-- "a session as opening leaves it but for §6's number", which is that of the portions free now
abbrev pub session_after : ℕ → Memory → Session
session_after rows m = fresh rows (free_count m.links)

-- taken, it leaves what is kept of the memory, values that are all unset (no form is active), and its list at the front of the output; refused, it leaves everything
unfoldable pub repaired : Session → ℕ → Memory → List ℕ → List ℕ → Repaired
repaired s rows m values output =
    let a : Answer = answer_of (repair_rows rows m values output) in
    cond (is_taken a)
    (repaired_by (outcome Taken (session_after rows (mended m)) (length (listed m))) (mended m) (zeros (length values)) (sets output 0 (listed m)))
    (repaired_by (outcome a s 0) m values output)
