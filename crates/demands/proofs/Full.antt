-- Paper 02, §5: which kind of full. What FS and GM are answered, and what 23 tells, of any lists and any input.
-- Assumes nothing.
use Rattle.std.proofs.Common.{Result, Ok, Err}
use mathlib.Core.Path.{◌≡◌, refl, sym, ap, ◌∙◌}
use mathlib.Core.Bool.{Bool, true, false, not, ◌||◌, false≢true}
use mathlib.Core.List.{List}
use Prim.Native.Nat.{ℕ, ◌≤◌}
use native.Mathlib.Omega.{arith}
use lib.ListN.{length}
use lib.Dec.{ltb}
use borrow.Author.Tests.{not-true, not-false, ltb-false, leb-true}
use Rattle.read.specs.declared.Fault.{Fault}
use Rattle.font.specs.Rules.{legal as legal_font}
use Rattle.pcx.specs.Rules.{legal as legal_picture}
use Rattle.grammar.specs.declared.Named.{Named}
use Rattle.grammar.specs.declared.StorePicture.{StorePicture}
use Rattle.grammar.specs.declared.Command.{Command}
use Rattle.grammar.specs.declared.Command.TheVariants.{Item as item, End, Page, Forms, Pictures, Values, Listing, Clock}
use Rattle.grammar.specs.declared.FormCommand.TheVariants.{Start, Retrieve, Erase as EraseForm}
use Rattle.grammar.specs.declared.PictureCommand.TheVariants.{Store, Erase as ErasePicture}
use Rattle.grammar.specs.declared.ValueCommand.TheVariants.{Variable as EnterVariable, Counter as EnterCounter, Clear, Print}
use Rattle.grammar.specs.declared.ListingCommand.TheVariants.{Forms as ListForms, Pictures as ListPictures, Form as ListForm}
use Rattle.read.specs.declared.Fault.TheVariants.{Form as form, Limit}
use Rattle.read.specs.Commands.{read_of}
use Rattle.front.specs.declared.Front.{Front}
use Rattle.front.specs.declared.Front.TheVariants.{Short, Long as LongLine, Idle, Line}
use Rattle.front.specs.Front.{front_of}
use Rattle.std.specs.Prelude.{None, Option, Some}
use Rattle.finding.specs.Find.{recorded, titled_at}
use Rattle.store.specs.Chain.{needed, free_count}
use Rattle.room.specs.Room.{empty_count, has_portions, has_entry}
use Rattle.room.proofs.Counting.{entry-counted}
use Rattle.parts.specs.Names.{packed_of}
use Rattle.keeps_sound.specs.Sound.{sound}
use Rattle.session.specs.declared.Session.{Session}
use Rattle.answers.specs.Answers.{answer_of, is_taken, number_of}
use Rattle.full.specs.Full.{full_rows}
use Rattle.lent.specs.Lent.{World, rows_of, wrong_lent}
use Rattle.results.proofs.Answers.{or-none}
use Rattle.commands.specs.Rows.{record_rows, run_rows, placed_rows, line_rows}
use Rattle.keeps_sound.specs.Table.{command_table, front_rows}
use Rattle.unread.specs.Front.{line_of, more_of}
use Rattle.keeps_sound.specs.Station.{commanded}
use Rattle.keeps_sound.specs.Good.{Good}
use Rattle.keeps_sound.proofs.Layers.{sound-good}
use Rattle.demands.specs.Calls.{Says, title_in}
use Rattle.demands.specs.Tables.{applies}
use Rattle.demands.specs.Full.{EntriesRanOut}
use Rattle.demands.proofs.Tables.{given, given-applies}
use Rattle.demands.proofs.Refusal.{command-answer, command-rises}
use Rattle.demands.proofs.Unfit.{own-answer}

-- ---- what the rows of a call say where 23 applies and 19 does not

-- of the two rows of a new entry
rows-ran-out :
    (w : World) (s : Session) (size : ℕ) → s.free ≡ free_count w.links → recorded w.directory ≡ None → (not (has_entry w.directory) || false) ≡ true →
    (not (has_portions s.free (needed size)) || false) ≡ false → EntriesRanOut w
rows-ran-out w s size counted quiet full some = record {
  quiet = quiet;
  none =
      let e : ltb 0 (empty_count w.directory) ≡ false = sym (entry-counted w.directory) ∙ not-true (has_entry w.directory) (first _ full) in
      let k : empty_count w.directory ≤ 0 = ltb-false 0 (empty_count w.directory) e in
      omega (arith, k);
  free =
      let k : needed size ≤ s.free = leb-true _ _ (not-false (has_portions s.free (needed size)) (first-not _ some)) in
      omega (arith, k, counted);
}
  where
    first : (b : Bool) → (b || false) ≡ true → b ≡ true
    first true e = refl
    first false e = e

    first-not : (b : Bool) → (b || false) ≡ false → b ≡ false
    first-not true e = e
    first-not false e = refl

module _ (w : World) (s : Session) (counted : s.free ≡ free_count w.links) (line more : List ℕ) (room : ℕ) where
  -- "A recorded line asks for no entry, so it never gives 23"
  record-no-entry : (i : ℕ) (c : Command) → applies 23 (record_rows w s line i c) ≡ false
  unfolding number_of
  record-no-entry i (item it) = refl
  record-no-entry i End = refl
  record-no-entry i (Page c) = refl
  record-no-entry i (Forms c) = refl
  record-no-entry i (Pictures c) = refl
  record-no-entry i (Values c) = refl
  record-no-entry i (Listing c) = refl
  record-no-entry i (Clock c) = refl

  run-ran-out :
      (c : Command) → recorded w.directory ≡ None → applies 23 (run_rows w s line more room c) ≡ true → applies 19 (run_rows w s line more room c) ≡ false →
      EntriesRanOut w
  unfolding number_of
  run-ran-out (item it) q e h = absurd (false≢true e)
  run-ran-out End q e h = absurd (false≢true e)
  run-ran-out (Page c) q e h = absurd (false≢true e)
  run-ran-out (Forms (Start n)) q e h = rows-ran-out w s 0 counted q e h
  run-ran-out (Forms (Retrieve n)) q e h = absurd (false≢true e)
  run-ran-out (Forms (EraseForm n)) q e h = absurd (false≢true e)
  run-ran-out (Pictures (Store p)) q e h = rows-ran-out w s (length more) counted q e h
  run-ran-out (Pictures (ErasePicture n)) q e h = absurd (false≢true e)
  run-ran-out (Values (EnterVariable v)) q e h = absurd (false≢true e)
  run-ran-out (Values (EnterCounter c)) q e h = absurd (false≢true e)
  run-ran-out (Values Clear) q e h = absurd (false≢true e)
  run-ran-out (Values (Print p)) q e h = absurd (false≢true e)
  run-ran-out (Listing ListForms) q e h = absurd (false≢true e)
  run-ran-out (Listing ListPictures) q e h = absurd (false≢true e)
  run-ran-out (Listing (ListForm n)) q e h = absurd (false≢true e)
  run-ran-out (Clock c) q e h = absurd (false≢true e)

  placed-ran-out :
      (c : Command) (f : Option ℕ) → recorded w.directory ≡ f → applies 23 (placed_rows w s line more room c f) ≡ true →
      applies 19 (placed_rows w s line more room c f) ≡ false → EntriesRanOut w
  placed-ran-out c (Some i) q e h = absurd (false≢true (sym (record-no-entry i c) ∙ e))
  placed-ran-out c None q e h = run-ran-out c q e h

  line-ran-out :
      (r : Result Command Fault) → applies 23 (line_rows w s line more room r) ≡ true → applies 19 (line_rows w s line more room r) ≡ false → EntriesRanOut w
  unfolding number_of
  line-ran-out (Err (form p)) e h = absurd (false≢true e)
  line-ran-out (Err (Limit p)) e h = absurd (false≢true e)
  line-ran-out (Ok c) e h = placed-ran-out c (recorded w.directory) refl e h

front-ran-out :
    (w : World) (s : Session) → s.free ≡ free_count w.links → (input : List ℕ) (room : ℕ) (f : Front) → applies 23 (front_rows w s input room f) ≡ true →
    applies 19 (front_rows w s input room f) ≡ false → EntriesRanOut w
unfolding number_of
front-ran-out w s c input room Short e h = absurd (false≢true e)
front-ran-out w s c input room (LongLine k) e h = absurd (false≢true e)
front-ran-out w s c input room (Idle k) e h = absurd (false≢true e)
front-ran-out w s c input room (Line n k) e h = line-ran-out w s c (line_of input n) (more_of input n k) room (read_of (rows_of w) (line_of input n)) e h

-- ---- 23

module _ (s : Session) (font : List ℕ) (w : World) (output input : List ℕ) where
  -- it is asked of the session's number, which by row 3 is that of the links marked free. It tells the bench that erasing for the sake of portions is of no use
  pub no-entry-says : number_of (commanded s font w output input).outcome.answer ≡ 23 → EntriesRanOut w
  unfolding command_table number_of is_taken
  no-entry-says e =
      let rows = command_table s font w (length output) input in
      let t : number_of (answer_of rows) ≡ 23 = ap number_of (sym (command-answer s font w output input)) ∙ e in
      let refused : is_taken (answer_of rows) ≡ false = rw t in
      let here : applies 23 rows ≡ true = ap (λ (n : ℕ). applies n rows) (sym t) ∙ given-applies rows refused in
      let before = (given rows (command-rises s font w (length output) input) refused).lowest in
      let long : wrong_lent w ≡ false = (or-none (wrong_lent w) _ (before 1 (rw t))).0 in
      let fine : sound s w ≡ true = not-false (sound s w) (or-none (not (sound s w)) _ (before 3 (rw t))).0 in
      front-ran-out w s (sound-good s w long fine).free input (length output) (front_of input) here (before 19 (rw t))

  -- so that no line is answered so while a form is recorded
  pub recording-no-entry : (i : ℕ) → recorded w.directory ≡ Some i → number_of (commanded s font w output input).outcome.answer ≡ 23 → ⊥
  recording-no-entry i still e = other i (sym still ∙ (no-entry-says e).quiet)
    where
      other : (i : ℕ) → Some i ≡ None → ⊥
      other i z = let k : ◌≡◌ {A = ℕ} 0 1 = cc in omega arith

-- ---- FS and GM, where nothing that stands before 19 in the table keeps them out

module _ (s : Session) (w : World) (g : Good s w) (font output input : List ℕ) (legal : legal_font font ≡ true) (none : s.owed ≡ 0) (quiet : recorded w.directory ≡ None) where
  pub start-answer :
      (n : Named) (r : Says w input (Forms (Start n))) → titled_at w.directory false (title_in r n) ≡ None →
      (commanded s font w output input).outcome.answer ≡ answer_of (full_rows (free_count w.links) w.directory 0)
  unfolding answer_of
  start-answer n r free = own-answer s w font output input (Forms (Start n)) r g legal none ∙ rw (quiet, free, g.free)

  pub picture-answer :
      (p : StorePicture) (r : Says w input (Pictures (Store p))) →
      titled_at w.directory true (packed_of (line_of input r.line) p.at p.length) ≡ None →
      legal_picture (more_of input r.line r.whole) ≡ true →
      (commanded s font w output input).outcome.answer ≡ answer_of (full_rows (free_count w.links) w.directory (length (more_of input r.line r.whole)))
  unfolding answer_of
  picture-answer p r free fine = own-answer s w font output input (Pictures (Store p)) r g legal none ∙ rw (quiet, free, fine, g.free)
