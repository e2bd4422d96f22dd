-- Theorems about the call: which answer is given when, what a call that is taken leaves, and that a refusal keeps everything.
-- Assumes nothing.
use mathlib.Core.Path.{◌≡◌, refl, ap}
use mathlib.Core.Bool.{Bool, true, false, cond, true≢false, false≢true}
use mathlib.Core.List.{List}
use Prim.Native.Nat.{ℕ}
use lib.ListN.{length}
use lib.Seq.{sets}
use lib.Dec.{ltb}
use Rattle.cells.specs.Cell.{zeros}
use Rattle.memory.specs.Memory.{Memory}
use Rattle.answers.specs.declared.Answer.{Answer}
use Rattle.answers.specs.declared.Answer.TheVariants.{Taken, Lengths, Overlong}
use Rattle.answers.specs.Answers.{is_taken, number_of, answer_of}
use Rattle.session.specs.declared.Session.{Session}
use Rattle.mending.specs.Mending.{mended}
use Rattle.verdict_list.specs.Lines.{listed}
use Rattle.repair.specs.Repair.{Repaired, repaired_by, outcome, wrong_for, repair_rows, session_after, repaired}

-- what a call leaves that is taken
abbrev pub leaves : ℕ → Memory → List ℕ → List ℕ → Repaired
leaves rows m values output =
    repaired_by (outcome Taken (session_after rows (mended m)) (length (listed m))) (mended m) (zeros (length values)) (sets output 0 (listed m))

-- ---- by the two rows of the table: whether a length is wrong, and whether the list is too long

abbrev rowed : Bool → Bool → Answer
rowed wrong long = cond wrong Lengths (cond long Overlong Taken)

module _ (s : Session) (rows : ℕ) (m : Memory) (values output : List ℕ) where
  abbrev wrong : Bool
  wrong = wrong_for rows m values

  abbrev long : Bool
  long = ltb (length output) (length (listed m))

  abbrev by : Bool → Bool → Repaired
  by a b = cond (is_taken (rowed a b)) (leaves rows m values output) (repaired_by (outcome (rowed a b) s 0) m values output)

  by_answer : (a b : Bool) → (by a b).outcome.answer ≡ rowed a b
  unfolding is_taken number_of
  by_answer true b = refl
  by_answer false true = refl
  by_answer false false = refl

  -- "Refusals: 1, then 20 if the list does not fit": the answer, whatever the memory
  pub repair-answer : (repaired s rows m values output).outcome.answer ≡ rowed wrong long
  unfolding repaired repair_rows answer_of
  repair-answer = by_answer wrong long

  by-taken : (a b : Bool) → (by a b).outcome.answer ≡ Taken → (a ≡ false) × ((b ≡ false) × (by a b ≡ leaves rows m values output))
  unfolding is_taken number_of
  by-taken true b e = absurd (false≢true (ap is_taken e))
  by-taken false true e = absurd (false≢true (ap is_taken e))
  by-taken false false e = (refl, (refl, refl))

  -- a call that is taken found the lengths right and the list not too long, and leaves what is kept
  pub repair-taken :
      (repaired s rows m values output).outcome.answer ≡ Taken →
      (wrong ≡ false) × ((long ≡ false) × (repaired s rows m values output ≡ leaves rows m values output))
  unfolding repaired repair_rows answer_of
  repair-taken = by-taken wrong long

  by-keeps : (a b : Bool) → is_taken (by a b).outcome.answer ≡ false → by a b ≡ repaired_by (outcome (by a b).outcome.answer s 0) m values output
  unfolding is_taken number_of
  by-keeps true b h = refl
  by-keeps false true h = refl
  by-keeps false false h = absurd (true≢false h)

  -- "with nothing touched"
  pub repair-refusal-keeps :
      is_taken (repaired s rows m values output).outcome.answer ≡ false →
      repaired s rows m values output ≡ repaired_by (outcome (repaired s rows m values output).outcome.answer s 0) m values output
  unfolding repaired repair_rows answer_of
  repair-refusal-keeps = by-keeps wrong long
