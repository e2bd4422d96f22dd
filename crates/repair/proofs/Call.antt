-- The three ways a call ends.
-- Assumes nothing.
use mathlib.Core.Path.{◌≡◌, sym, ap, ◌∙◌}
use mathlib.Core.List.{List}
use mathlib.Core.Bool.{Bool, true, false, not}
use Prim.Native.Nat.{ℕ, ◌*◌, ◌%◌, ◌≤◌, ◌<◌}
use native.Mathlib.Omega.{arith}
use lib.ListN.{length, replicate}
use lib.Seq.{sets}
use lib.Dec.{eqb, ltb}
use borrow.Author.Tests.{lt-ltb, le-ltb}
use Rattle.ground.proofs.Tests.{or-first, or-second}
use Rattle.cells.specs.Cell.{zeros}
use Rattle.cells.proofs.Counts.{times-few}
use Rattle.store.specs.Chain.{free_count}
use Rattle.store.specs.Entry.{entries}
use Rattle.memory.specs.Memory.{Memory}
use Rattle.stored_values.specs.Stored.{unset}
use Rattle.answers.specs.declared.Answer.TheVariants.{Taken, Lengths, Overlong}
use Rattle.answers.specs.Answers.{number_of, is_taken, answer_of}
use Rattle.session.specs.declared.Session.{Session}
use Rattle.session.specs.Session.{fresh}
use Rattle.lent.specs.Lent.{page_wrong, lengths_wrong}
use Rattle.lent.proofs.Lengths.{page-bound, links-bound}
use Rattle.writing.specs.Writing.{Wrote}
use Rattle.verdicts.specs.Verdicts.{Known, known, unjudged, judged, judged_all}
use Rattle.mending.specs.Mending.{mended_by}
use Rattle.mending.proofs.Parts.{length-links}
use Rattle.verdict_list.specs.Lines.{verdict_list, listed}
use Rattle.repair.specs.declared.Outcome.{Outcome}
use Rattle.repair.specs.Repair.{repaired_by, outcome, wrong_for, repair_rows, repaired}

-- more than 4,000 rows
pub rows-wrong : (rows st ls dir v : ℕ) → 4000 < rows → true ≡ lengths_wrong (rows * 76) st ls dir v
unfolding lengths_wrong page_wrong
rows-wrong rows st ls dir v h =
    sym (or-first _ _ (or-second (not (eqb (rows * 76 % 76) 0)) _ (or-second (ltb (rows * 76) 76) _ (lt-ltb 304000 (rows * 76) (let g : 304000 < rows * 76 = omega arith in g)))))

module _ (rows : ℕ) (m : Memory) (v : List ℕ) (w : Bool) (ew : w ≡ wrong_for rows m v) where
  -- where no length is wrong, N and the number of portions free are numbers of 16 bits
  module _ (right : w ≡ false) where
    pub rows_fit : rows < 65536
    rows_fit = omega (arith, page-bound (rows * 76) (length m.store) (length m.links) (length m.directory) (length v) (sym ew ∙ right))

    pub free-fits : (k : Known) (m' : Memory) (n : ℕ) → m' ≡ mended_by k m → n ≡ free_count m'.links → n < 65536
    unfolding mended_by
    free-fits k m' n em en =
        let long : length m'.links ≡ length m.links = ap (λ (x : Memory). length x.links) em ∙ length-links m.links k.fills in
        let few = links-bound (rows * 76) (length m.store) (length m.links) (length m.directory) (length v) (sym ew ∙ right) in
        omega (arith, times-few 65535 m'.links)

  module _ (s : Session) (o : List ℕ) where
    pub call-wrong : (r : Outcome) → w ≡ true → r ≡ outcome Lengths s 0 → repaired_by r m v o ≡ repaired s rows m v o
    unfolding repaired repair_rows answer_of is_taken number_of
    call-wrong r y er = rw (er, sym ew ∙ y)

    module _ (right : w ≡ false) (vs fs : List ℕ) (n : ℕ) (es : known vs fs ≡ judged m (known (replicate 512 0) (replicate 2024 0)) (entries m.directory))
        (en : n ≡ length (verdict_list vs)) where
      all : known vs fs ≡ judged_all m
      unfolding judged_all unjudged zeros
      all = es

      lines : verdict_list vs ≡ listed m
      lines = ap (λ (k : Known). verdict_list k.verdicts) all

      pub call-overlong : (r : Outcome) → length o < n → r ≡ outcome Overlong s 0 → repaired_by r m v o ≡ repaired s rows m v o
      unfolding repaired repair_rows answer_of is_taken number_of
      call-overlong r h er = rw (er, sym ew ∙ right, lt-ltb (length o) (length (listed m)) (omega (arith, ap length lines)))

      pub call-taken : (f : Session) (k free : ℕ) (m' : Memory) (v' o' : List ℕ) → n ≤ length o → Wrote o 0 (verdict_list vs) k o'
          → m' ≡ mended_by (known vs fs) m → v' ≡ unset v → free ≡ free_count m'.links → f ≡ fresh rows free
          → repaired_by (outcome Taken f k) m' v' o' ≡ repaired s rows m v o
      unfolding repaired repair_rows answer_of is_taken number_of unset zeros
      call-taken f k free m' v' o' h wr em ev eg ef =
          let long : k ≡ length (listed m) = omega (arith, wr.place, ap length lines) in
          let left : m' ≡ mended_by (judged_all m) m = em ∙ ap (λ (t : Known). mended_by t m) all in
          rw (sym ew ∙ right, le-ltb (length o) (length (listed m)) (omega (arith, ap length lines)), ef, eg, long, left, ev, wr.stored ∙ ap (sets o 0) lines)
