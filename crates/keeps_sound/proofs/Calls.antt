-- Every call leads from a sound world to a sound one: a label call (Labels), and here each command call, taken or refused.
-- Assumes nothing.
use Rattle.std.proofs.Common.{Result, Ok, Err}
use mathlib.Core.Path.{◌≡◌, refl, subst}
use mathlib.Core.Bool.{Bool, true, false, ◌||◌, cond}
use mathlib.Core.List.{List}
use Prim.Native.Nat.{ℕ, ◌+◌, ◌≤◌, ◌<◌}
use native.Mathlib.Omega.{arith}
use lib.ListN.{length, get_or, take, length-take}
use lib.Dec.{eqb, ltb, leb}
use borrow.Author.Tests.{ltb-true, ltb-false}
use Rattle.read.specs.declared.Fault.{Fault}
use Rattle.classes.specs.Bytes.{run}
use Rattle.classes.specs.declared.Class.TheVariants.{Inside}
use Rattle.finding.specs.Find.{recorded}
use Rattle.grammar.specs.declared.Command.{Command}
use Rattle.grammar.specs.declared.Command.TheVariants.{Item as item, End, Page, Forms, Pictures, Values, Listing, Clock}
use Rattle.grammar.specs.declared.PageCommand.{PageCommand}
use Rattle.grammar.specs.declared.PageCommand.TheVariants.{Length, Width, Turn, White}
use Rattle.grammar.specs.declared.FormCommand.{FormCommand}
use Rattle.grammar.specs.declared.FormCommand.TheVariants.{Start, Retrieve, Erase as EraseForm}
use Rattle.grammar.specs.declared.PictureCommand.{PictureCommand}
use Rattle.grammar.specs.declared.PictureCommand.TheVariants.{Store, Erase as ErasePicture}
use Rattle.grammar.specs.declared.ValueCommand.{ValueCommand}
use Rattle.grammar.specs.declared.ValueCommand.TheVariants.{Variable as EnterVariable, Counter as EnterCounter, Clear, Print}
use Rattle.grammar.specs.declared.ListingCommand.{ListingCommand}
use Rattle.grammar.specs.declared.ListingCommand.TheVariants.{Forms as ListForms, Pictures as ListPictures, Form as ListForm}
use Rattle.front.specs.declared.Front.{Front}
use Rattle.front.specs.declared.Front.TheVariants.{Short, Long as LongLine, Idle, Line}
use Rattle.read.specs.Commands.{read_of}
use Rattle.front.specs.Front.{front_of, line_front, asked}
use Rattle.sound.specs.Sound.{sound}
use Rattle.session.specs.declared.Session.{Session}
use Rattle.answers.specs.Answers.{number_of, is_taken, answer_of}
use Rattle.lent.specs.Lent.{World, rows_of, wrong_lent}
use Rattle.calls.specs.Rows.{run_rows, placed_rows, line_rows}
use Rattle.calls.specs.Does.{runs, placed, does_line}
use Rattle.unread.specs.Front.{line_of, more_of}
use Rattle.calls.specs.Table.{front_rows, command_table}
use Rattle.calls.specs.Outcomes.{After}
use Rattle.calls.specs.Station.{does_front, commanded}
use Rattle.keeps_sound.specs.Good.{Good}
use Rattle.keeps_sound.specs.Tens.{Tens}
use Rattle.keeps_sound.proofs.Layers.{good-sound, sound-good}
use Rattle.keeps_sound.proofs.Tables.{clear, taken_is}
use Rattle.keeps_sound.proofs.Numbers.{keeps-length, keeps-width, keeps-turn, keeps-item}
use Rattle.keeps_sound.proofs.SetsClock.{keeps-clock}
use Rattle.keeps_sound.proofs.Values.{keeps-retrieve, keeps-variable, keeps-counter, keeps-clear, keeps-print, keeps-white, keeps-listing, keeps-pictures, keeps-printed}
use Rattle.keeps_sound.proofs.Erasing.{keeps-erase-form, keeps-erase-picture}
use Rattle.keeps_sound.proofs.Starting.{keeps-start, keeps-picture}
use Rattle.keeps_sound.proofs.Recording.{keeps-records}
use Rattle.std.specs.Prelude.{None, Option, Some}
use Rattle.answers.specs.declared.Answer.TheVariants.{
  Taken,
  Lengths,
  Font,
  Unsound,
  Owing,
}

-- ---- "A line is up to 255 bytes"

abbrev bytes_of : Front → ℕ
bytes_of Short = 0
bytes_of (LongLine k) = 0
bytes_of (Idle k) = 0
bytes_of (Line n k) = n

few : (a b c d e : Bool) (i k l m q : ℕ) → (b ≡ true → q < 256)
    → bytes_of (cond a (cond b (cond c (Idle i) (cond d (Line q k) Short)) (LongLine l)) (cond e Short (LongLine m))) ≤ 255
few true true true d e i k l m q h = omega arith
few true true false true e i k l m q h = let z = h refl in omega (arith, z)
few true true false false e i k l m q h = omega arith
few true false c d e i k l m q h = omega arith
few false b c d true i k l m q h = omega arith
few false b c d false i k l m q h = omega arith

front-few : (s : List ℕ) → bytes_of (front_of s) ≤ 255
unfolding front_of line_front
front-few s =
    let n = run Inside s in
    few (ltb n (length s)) (ltb n 256) (eqb n 0 || eqb (get_or s 0 0) 59) (leb (n + 1 + asked (take n s)) (length s)) (ltb (length s) 256) (n + 1)
    (n + 1 + asked (take n s)) (n + 1) (length s) n (λ e. ltb-true n 256 e)

line-few : (s : List ℕ) (n k : ℕ) → front_of s ≡ Line n k → length (line_of s n) ≤ 255
line-few s n k e =
    let h : n ≤ 255 = subst (λ (f : Front). bytes_of f ≤ 255) e (front-few s) in
    rw (length-take n s) (omega arith)

-- ---- a command that is taken

module _ (font : List ℕ) (w : World) (s : Session) (line more : List ℕ) (room : ℕ) where
  page-good : (c : PageCommand) → Good s w → s.owed ≡ 0 → read_of (rows_of w) line ≡ Ok (Page c)
      → Good (runs font w s line more (Page c)).session (runs font w s line more (Page c)).world
  page-good (Length l) g none r = keeps-length font w s line more g l r
  page-good (Width m) g none r = keeps-width font w s line more g m r
  page-good (Turn x) g none r = keeps-turn font w s line more g x
  page-good White g none r = keeps-white font w s line more g none

  form-good : (c : FormCommand) → Good s w → recorded w.directory ≡ None → s.owed ≡ 0 → read_of (rows_of w) line ≡ Ok (Forms c)
      → answer_of (run_rows w s line more room (Forms c)) ≡ Taken
      → Good (runs font w s line more (Forms c)).session (runs font w s line more (Forms c)).world
  form-good (Start n) g quiet none r a = keeps-start s w g none quiet font line more room n r a
  form-good (Retrieve n) g quiet none r a = keeps-retrieve font w s line more g n quiet none
  form-good (EraseForm n) g quiet none r a = keeps-erase-form s w g none font line more n

  picture-good : (c : PictureCommand) → Good s w → recorded w.directory ≡ None → s.owed ≡ 0 → read_of (rows_of w) line ≡ Ok (Pictures c)
      → answer_of (run_rows w s line more room (Pictures c)) ≡ Taken
      → Good (runs font w s line more (Pictures c)).session (runs font w s line more (Pictures c)).world
  picture-good (Store p) g quiet none r a = keeps-picture s w g none quiet font line more room p r a
  picture-good (ErasePicture n) g quiet none r a = keeps-erase-picture s w g none font line more n

  value-good : (c : ValueCommand) → Good s w → Tens s → recorded w.directory ≡ None → s.owed ≡ 0 → read_of (rows_of w) line ≡ Ok (Values c)
      → answer_of (run_rows w s line more room (Values c)) ≡ Taken
      → Good (runs font w s line more (Values c)).session (runs font w s line more (Values c)).world
  value-good (EnterVariable v) g t quiet none r a = keeps-variable font w s line more g v none
  value-good (EnterCounter c) g t quiet none r a = keeps-counter font w s line more g c none t
  value-good Clear g t quiet none r a = keeps-clear font w s line more g none
  value-good (Print p) g t quiet none r a = keeps-print font w s line more g room p quiet r a

  listing-good : (c : ListingCommand) → Good s w → Good (runs font w s line more (Listing c)).session (runs font w s line more (Listing c)).world
  listing-good ListForms g = keeps-listing font w s line more g
  listing-good ListPictures g = keeps-pictures font w s line more g
  listing-good (ListForm n) g = keeps-printed font w s line more g n

  run-good : (c : Command) → Good s w → Tens s → recorded w.directory ≡ None → s.owed ≡ 0 → read_of (rows_of w) line ≡ Ok c
      → answer_of (run_rows w s line more room c) ≡ Taken → Good (runs font w s line more c).session (runs font w s line more c).world
  run-good (item it) g t quiet none r a = keeps-item font w s line more g it r
  run-good End g t quiet none r a = g
  run-good (Page c) g t quiet none r a = page-good c g none r
  run-good (Forms c) g t quiet none r a = form-good c g quiet none r a
  run-good (Pictures c) g t quiet none r a = picture-good c g quiet none r a
  run-good (Values c) g t quiet none r a = value-good c g t quiet none r a
  run-good (Listing c) g t quiet none r a = listing-good c g
  run-good (Clock c) g t quiet none r a = keeps-clock font w s line more g c r

-- ---- a line that is taken

module _ (font : List ℕ) (w : World) (s : Session) (g : Good s w) (t : Tens s) where
  placed-good : (line more : List ℕ) (room : ℕ) (f : Option ℕ) (c : Command) → length line ≤ 255 → s.owed ≡ 0 → recorded w.directory ≡ f
      → read_of (rows_of w) line ≡ Ok c → answer_of (placed_rows w s line more room c f) ≡ Taken
      → Good (placed font w s line more c f).session (placed font w s line more c f).world
  placed-good line more room (Some i) c short none q r a = keeps-records s w g i q line c r short a
  placed-good line more room None c short none q r a = run-good font w s line more room c g t q none r a

  -- a line that was read: [8] does not apply
  line-good : (line more : List ℕ) (room : ℕ) (r : Result Command Fault) → length line ≤ 255 → read_of (rows_of w) line ≡ r
      → answer_of (line_rows w s line more room r) ≡ Taken → Good (does_line font w s line more r).session (does_line font w s line more r).world
  unfolding is_taken number_of
  line-good line more room (Ok c) short r a =
      let h = clear Owing (ltb 0 s.owed) _ refl a in
      let none : s.owed ≡ 0 = omega (arith, ltb-false 0 s.owed h.0) in
      placed-good line more room (recorded w.directory) c short none refl r h.1
  line-good line more room (Err f) short r a = g

  front-good : (input : List ℕ) (room : ℕ) (f : Front) → front_of input ≡ f → answer_of (front_rows w s input room f) ≡ Taken
      → Good (does_front font w s input f).session (does_front font w s input f).world
  front-good input room Short e a = g
  front-good input room (LongLine k) e a = g
  front-good input room (Idle k) e a = g
  front-good input room (Line n k) e a = line-good (line_of input n) (more_of input n k) room (read_of (rows_of w) (line_of input n)) (line-few input n k e) refl a

-- ---- the call, taken or refused

settled-keeps : (p : Session → World → Type 0) (b : Bool) (x y : After) → (b ≡ true → p x.outcome.session x.world) → p y.outcome.session y.world
    → p (cond b x y).outcome.session (cond b x y).world
settled-keeps p true x y h k = h refl
settled-keeps p false x y h k = k

module _ (s : Session) (font : List ℕ) (w : World) where
  table-lengths : (room : ℕ) (input : List ℕ) → answer_of (command_table s font w room input) ≡ Taken → wrong_lent w ≡ false
  unfolding command_table is_taken number_of
  table-lengths room input a = (clear Lengths _ _ refl a).0

  table-front : (room : ℕ) (input : List ℕ) → answer_of (command_table s font w room input) ≡ Taken → answer_of (front_rows w s input room (front_of input)) ≡ Taken
  unfolding command_table is_taken number_of
  table-front room input a = (clear Unsound _ _ refl (clear Font _ _ refl (clear Lengths _ _ refl a).1).1).1

  module _ (output input : List ℕ) where
    taken-good : Good s w → Tens s → is_taken (answer_of (command_table s font w (length output) input)) ≡ true
        → Good (does_front font w s input (front_of input)).session (does_front font w s input (front_of input)).world
    taken-good g t e =
        front-good font w s g t input (length output) (front_of input) refl
        (table-front (length output) input (taken_is (answer_of (command_table s font w (length output) input)) e))

    pub command-good : Good s w → Tens s → Good (commanded s font w output input).outcome.session (commanded s font w output input).world
    unfolding commanded
    command-good g t = settled-keeps Good (is_taken (answer_of (command_table s font w (length output) input))) _ _ (taken-good g t) g

    -- with lent lengths that are wrong nothing is taken, so sound alone is enough
    pub command-sound : sound s w ≡ true → Tens s → sound (commanded s font w output input).outcome.session (commanded s font w output input).world ≡ true
    unfolding commanded
    command-sound h t =
        let a = answer_of (command_table s font w (length output) input) in
        settled-keeps (λ x y. sound x y ≡ true) (is_taken a) _ _
        (λ e. good-sound _ _ (taken-good (sound-good s w (table-lengths (length output) input (taken_is a e)) h) t e)) h
