-- On a sound world of right lengths no call answers 3.
-- Assumes nothing.
use Rattle.std.proofs.Common.{Result, Ok, Err}
use mathlib.Core.Path.{◌≡◌, refl, sym, ap, ◌∙◌}
use mathlib.Core.Bool.{Bool, true, false, not, ◌&&◌, ◌||◌, true≢false, false≢true, cond}
use mathlib.Core.List.{List, [], ◌∷◌}
use Prim.Native.Nat.{ℕ}
use lib.ListN.{length}
use lib.Dec.{eqb}
use Rattle.read.specs.declared.Fault.{Fault}
use Rattle.finding.specs.Find.{recorded}
use Rattle.grammar.specs.declared.Command.{Command}
use Rattle.grammar.specs.declared.Command.TheVariants.{Item as item, End, Page, Forms, Pictures, Values, Listing, Clock}
use Rattle.grammar.specs.declared.FormCommand.TheVariants.{Start, Retrieve, Erase as EraseForm}
use Rattle.grammar.specs.declared.PictureCommand.TheVariants.{Store, Erase as ErasePicture}
use Rattle.grammar.specs.declared.ValueCommand.TheVariants.{Variable as EnterVariable, Counter as EnterCounter, Clear, Print}
use Rattle.grammar.specs.declared.ListingCommand.TheVariants.{Forms as ListForms, Pictures as ListPictures, Form as ListForm}
use Rattle.read.specs.declared.Fault.TheVariants.{Form as form, Limit}
use Rattle.front.specs.declared.Front.{Front}
use Rattle.front.specs.declared.Front.TheVariants.{Short, Long as LongLine, Idle, Line}
use Rattle.read.specs.Commands.{read_of}
use Rattle.front.specs.Front.{front_of}
use Rattle.sound.specs.Sound.{sound}
use Rattle.session.specs.declared.Session.{Session}
use Rattle.answers.specs.declared.Answer.{Answer}
use Rattle.answers.specs.declared.Answer.TheVariants.{Taken, Unsound}
use Rattle.answers.specs.Answers.{Row, number_of, is_taken, answer_of}
use Rattle.lent.specs.Lent.{World, rows_of}
use Rattle.calls.specs.Rows.{record_rows, run_rows, placed_rows, line_rows}
use Rattle.calls.specs.Outcomes.{After, Drawn, drawn_by, labelled}
use Rattle.unread.specs.Front.{line_of, more_of, read_by}
use Rattle.calls.specs.Table.{front_rows, command_table, label_table}
use Rattle.calls.specs.Station.{refused, commanded, labelled_by}
use Rattle.keeps_sound.proofs.Layers.{first_of, second-of}
use Rattle.std.specs.Prelude.{None, Option, Some}

-- ---- tables none of whose rows gives 3

abbrev harmless : List Row → Bool
harmless [] = true
harmless (r ∷ rs) = (not (eqb (number_of r.answer) 3) || not r.applies) && harmless rs

picked-not : (b : Bool) (a x : Answer) → (not (eqb (number_of a) 3) || not b) ≡ true → (x ≡ Unsound → ⊥) → cond b a x ≡ Unsound → ⊥
unfolding number_of
picked-not true a x h n e = false≢true (ap (λ (k : Answer). not (eqb (number_of k) 3) || false) (sym e) ∙ h)
picked-not false a x h n e = n e

harmless-answer : (rs : List Row) → harmless rs ≡ true → answer_of rs ≡ Unsound → ⊥
unfolding answer_of number_of is_taken
harmless-answer [] h e = true≢false (ap is_taken e)
harmless-answer (r ∷ rs) h e =
    picked-not r.applies r.answer (answer_of rs) (first_of (not (eqb (number_of r.answer) 3) || not r.applies) (harmless rs) h)
    (harmless-answer rs (second-of (not (eqb (number_of r.answer) 3) || not r.applies) (harmless rs) h)) e

module _ (w : World) (s : Session) (line more : List ℕ) (room : ℕ) where
  record-harmless : (i : ℕ) (c : Command) → harmless (record_rows w s line i c) ≡ true
  unfolding number_of
  record-harmless i (item it) = refl
  record-harmless i End = refl
  record-harmless i (Page c) = refl
  record-harmless i (Forms c) = refl
  record-harmless i (Pictures c) = refl
  record-harmless i (Values c) = refl
  record-harmless i (Listing c) = refl
  record-harmless i (Clock c) = refl

  run-harmless : (c : Command) → harmless (run_rows w s line more room c) ≡ true
  unfolding number_of
  run-harmless (item it) = refl
  run-harmless End = refl
  run-harmless (Page c) = refl
  run-harmless (Forms (Start n)) = refl
  run-harmless (Forms (Retrieve n)) = refl
  run-harmless (Forms (EraseForm n)) = refl
  run-harmless (Pictures (Store p)) = refl
  run-harmless (Pictures (ErasePicture n)) = refl
  run-harmless (Values (EnterVariable v)) = refl
  run-harmless (Values (EnterCounter c)) = refl
  run-harmless (Values Clear) = refl
  run-harmless (Values (Print p)) = refl
  run-harmless (Listing ListForms) = refl
  run-harmless (Listing ListPictures) = refl
  run-harmless (Listing (ListForm n)) = refl
  run-harmless (Clock c) = refl

  placed-harmless : (f : Option ℕ) (c : Command) → harmless (placed_rows w s line more room c f) ≡ true
  placed-harmless (Some i) c = record-harmless i c
  placed-harmless None c = run-harmless c

  line-harmless : (r : Result Command Fault) → harmless (line_rows w s line more room r) ≡ true
  unfolding number_of
  line-harmless (Err (form p)) = refl
  line-harmless (Err (Limit p)) = refl
  line-harmless (Ok c) = placed-harmless (recorded w.directory) c

front-harmless : (w : World) (s : Session) (input : List ℕ) (room : ℕ) (f : Front) → harmless (front_rows w s input room f) ≡ true
unfolding number_of
front-harmless w s input room Short = refl
front-harmless w s input room (LongLine k) = refl
front-harmless w s input room (Idle k) = refl
front-harmless w s input room (Line n k) = line-harmless w s (line_of input n) (more_of input n k) room (read_of (rows_of w) (line_of input n))

-- ---- the calls

module _ (s : Session) (font : List ℕ) (w : World) (h : sound s w ≡ true) where
  command-harmless : (room : ℕ) (input : List ℕ) → harmless (command_table s font w room input) ≡ true
  unfolding command_table number_of
  command-harmless room input = rw h (front-harmless w s input room (front_of input))

  label-harmless : (page : ℕ) → harmless (label_table s font w page) ≡ true
  unfolding label_table number_of
  label-harmless page = rw h

  settled-never : (b : Bool) (x y : After) → x.outcome.answer ≡ Taken → (y.outcome.answer ≡ Unsound → ⊥) → (cond b x y).outcome.answer ≡ Unsound → ⊥
  unfolding is_taken number_of
  settled-never true x y p q e = true≢false (ap is_taken (sym p ∙ e))
  settled-never false x y p q e = q e

  settled-label-never : (b : Bool) (x y : Drawn) → x.outcome.answer ≡ Taken → (y.outcome.answer ≡ Unsound → ⊥) → (cond b x y).outcome.answer ≡ Unsound → ⊥
  unfolding is_taken number_of
  settled-label-never true x y p q e = true≢false (ap is_taken (sym p ∙ e))
  settled-label-never false x y p q e = q e

  pub command-never : (output input : List ℕ) → (commanded s font w output input).outcome.answer ≡ Unsound → ⊥
  unfolding commanded
  command-never output input =
      let rows = command_table s font w (length output) input in
      settled-never (is_taken (answer_of rows)) _ (refused (answer_of rows) (read_by (answer_of rows) input) s w output) refl
      (harmless-answer rows (command-harmless (length output) input))

  pub label-never : (page : List ℕ) → (labelled_by s font w page).outcome.answer ≡ Unsound → ⊥
  unfolding labelled_by
  label-never page =
      let rows = label_table s font w (length page) in
      settled-label-never (is_taken (answer_of rows)) _ (drawn_by (labelled (answer_of rows) s) page) refl (harmless-answer rows (label-harmless (length page)))
