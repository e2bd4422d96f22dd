-- Paper 02, §11: whenever a repair is taken, what it leaves is sound with a white background of its rows. What is sound already it leaves as it is, and so does a
-- second repair; and its list has what is said of each entry.
-- Assumes nothing.
use mathlib.Core.Path.{◌≡◌, refl, sym, ap, ◌∙◌, subst}
use mathlib.Core.Bool.{Bool, true, false, cond}
use mathlib.Core.List.{List, []}
use mathlib.Core.Logic.{◌↔◌, ⊎_elim}
use Prim.Native.Nat.{ℕ, ◌*◌, ◌/◌, ◌<◌}
use native.Mathlib.Omega.{arith}
use lib.ListN.{length}
use lib.Dec.{eqb}
use borrow.Author.Tests.{eq-eqb, ne_eqb}
use Rattle.ground.proofs.Tests.{same?}
use Rattle.cells.specs.Cell.{zeros}
use Rattle.cells.proofs.Cells.{length-zeros}
use Rattle.dots.specs.Dots.{bytes_a_row}
use Rattle.store.specs.Chain.{free_count}
use Rattle.store.specs.Entry.{entries, kind}
use Rattle.std.specs.Prelude.{None}
use Rattle.finding.specs.Find.{is_empty, recorded}
use Rattle.memory.specs.Memory.{Memory, entry_of}
use Rattle.store_sound.specs.Sound.{lent_ok, store_sound}
use Rattle.content_check.specs.Contents.{contents_ok}
use Rattle.verdicts.specs.Verdicts.{unsaid, judged_all}
use Rattle.verdict_list.specs.Lines.{verdict_line, line_at}
use Rattle.mending.specs.Mending.{mended}
use Rattle.mended.specs.Fair.{said}
use Rattle.mended.proofs.Theorems.{said-nothing, listed as verdicts-said, mended-sound, mended-contents, mended-lengths, mended-same, mended-twice}
use Rattle.sound.specs.Sound.{sound}
use Rattle.answers.specs.declared.Answer.TheVariants.{Taken}
use Rattle.answers.specs.Answers.{is_taken}
use Rattle.session.specs.declared.Session.{Session}
use Rattle.session.specs.Session.{fresh}
use Rattle.lent.specs.Lent.{World, world, wrong_lent}
use Rattle.repair.specs.Repair.{Repaired, wrong_for, session_after, repaired}
use Rattle.repair.proofs.Promises.{leaves, repair-taken, repair-refusal-keeps}
use Rattle.results.specs.World.{State}
use Rattle.keeps_sound.specs.Good.{Good}
use Rattle.keeps_sound.specs.Tens.{Tens}
use Rattle.keeps_sound.specs.Calls.{besides, repaired_state}
use Rattle.keeps_sound.proofs.Facts.{lent-facts}
use Rattle.keeps_sound.proofs.Layers.{good-sound}
use Rattle.keeps_sound.proofs.Tables.{taken_is}
use Rattle.keeps_sound.proofs.Fresh.{begins, fresh-good}

module _ (rows : ℕ) (m : Memory) (values : List ℕ) (right : wrong_for rows m values ≡ false) where
  -- the lists beside a background of that many rows
  abbrev lent : World
  lent = world (zeros (rows * bytes_a_row)) m.store m.links m.directory values

  pub right-memory : lent_ok m.store m.links m.directory ≡ true
  right-memory = (lent-facts lent (rw (length-zeros (rows * bytes_a_row)) right)).memory

  right-after : wrong_lent (begins (rows * bytes_a_row) (mended m).store (mended m).links (mended m).directory values) ≡ false
  right-after =
      let l = mended-lengths m right-memory in
      rw (length-zeros (rows * bytes_a_row), length-zeros (length values), l.0, l.1.0, l.1.1) right

  many : length (zeros (rows * bytes_a_row)) / bytes_a_row ≡ rows
  many = omega (arith, length-zeros (rows * bytes_a_row))

  left-good : Good (session_after rows (mended m)) (begins (rows * bytes_a_row) (mended m).store (mended m).links (mended m).directory values)
  left-good =
      subst (λ (n : ℕ). Good (fresh n (free_count (mended m).links)) (begins (rows * bytes_a_row) (mended m).store (mended m).links (mended m).directory values)) many
      (fresh-good (rows * bytes_a_row) (mended m).store (mended m).links (mended m).directory values right-after (mended-sound m right-memory)
      (mended-contents m right-memory) (free_count (mended m).links) refl)

module _ (s : Session) (rows : ℕ) (m : Memory) (values output : List ℕ) (taken : (repaired s rows m values output).outcome.answer ≡ Taken) where
  left_is : repaired_state s rows m values output ≡ besides rows (leaves rows m values output)
  left_is = ap (besides rows) (repair-taken s rows m values output taken).1.1

  pub repaired-good : Good (repaired_state s rows m values output).session (repaired_state s rows m values output).world
  repaired-good = subst (λ (st : State). Good st.session st.world) (sym left_is) (left-good rows m values (repair-taken s rows m values output taken).0)

  pub repaired-tens : Tens (repaired_state s rows m values output).session
  repaired-tens = subst (λ (st : State). Tens st.session) (sym left_is) (record { flags = refl; values = refl })

  -- "leaves them sound with a session as opening leaves it"
  pub repaired-sound : sound (repaired_state s rows m values output).session (repaired_state s rows m values output).world ≡ true
  repaired-sound = good-sound (repaired_state s rows m values output).session (repaired_state s rows m values output).world repaired-good

  -- repairing twice is repairing once: whatever session is given then, memory, values and session stay as the first repair left them
  module _ (s' : Session) (output' : List ℕ) where
    abbrev once : Repaired
    once = repaired s rows m values output

    abbrev again : Repaired
    again = repaired s' rows once.memory once.values output'

    once_is : once ≡ leaves rows m values output
    once_is = (repair-taken s rows m values output taken).1.1

    twice-is : mended once.memory ≡ once.memory
    twice-is = rw once_is (mended-twice m (right-memory rows m values (repair-taken s rows m values output taken).0))

    pub again-same :
        again.outcome.answer ≡ Taken →
        (again.memory ≡ once.memory) × ((again.values ≡ once.values) × (again.outcome.session ≡ once.outcome.session))
    again-same t =
        let e = (repair-taken s' rows once.memory once.values output' t).1.1 in (
          ap (λ (r : Repaired). r.memory) e ∙ twice-is,
          (
            ap (λ (r : Repaired). r.values) e ∙ rw once_is (ap zeros (length-zeros (length values))),
            ap (λ (r : Repaired). r.outcome.session) e ∙ ap (session_after rows) twice-is
                ∙ rw once_is (let k : session_after rows (mended m) ≡ session_after rows (mended m) = refl in k),
          ),
        )

-- a sound store with nothing being recorded stays as it is, whatever is answered
pub sound-stays :
    (m : Memory) → store_sound m.store m.links m.directory ≡ true → contents_ok m.store m.links m.directory ≡ true →
    recorded m.directory ≡ None → (s : Session) (rows : ℕ) (values output : List ℕ) → (repaired s rows m values output).memory ≡ m
sound-stays m sound contents quiet s rows values output = stays (is_taken (repaired s rows m values output).outcome.answer) refl
  where
    stays : (t : Bool) → is_taken (repaired s rows m values output).outcome.answer ≡ t → (repaired s rows m values output).memory ≡ m
    stays true e =
        ap (λ (r : Repaired). r.memory) (repair-taken s rows m values output (taken_is (repaired s rows m values output).outcome.answer e)).1.1
        ∙ mended-same m sound contents quiet
    stays false e = ap (λ (r : Repaired). r.memory) (repair-refusal-keeps s rows m values output e)

-- "one line for each entry not of kind 0": it has what is said of that entry
pub line-said :
    (m : Memory) → lent_ok m.store m.links m.directory ≡ true → (i : ℕ) → i < entries m.directory →
    line_at (judged_all m).verdicts i ≡ cond (is_empty m.directory i) [] (verdict_line i (said m i))
unfolding line_at
line-said m lent i b =
    ap (λ (v : ℕ). cond (eqb v unsaid) [] (verdict_line i v)) (verdicts-said m lent i b)
    ∙ ap (λ (t : Bool). cond t [] (verdict_line i (said m i))) (both-empty (said m i) (kind (entry_of m i)) (said-nothing m i))
  where
    both-empty : (v k : ℕ) → (v ≡ 0) ↔ (k ≡ 0) → eqb v 0 ≡ eqb k 0
    both-empty v k h = ⊎_elim
        (λ (z : v ≡ 0). eq-eqb v 0 z ∙ sym (eq-eqb k 0 (h.0 z)))
        (λ (n : v ≡ 0 → ⊥). ne_eqb v 0 n ∙ sym (ne_eqb k 0 (λ z. n (h.1 z))))
        (same? v 0)
