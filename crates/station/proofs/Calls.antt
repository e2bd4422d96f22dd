-- A command call: the ways it ends.
-- Assumes nothing.
use Rattle.std.proofs.Common.{Result, Ok, Err}
use mathlib.Core.Path.{◌≡◌, refl, sym, ap, ◌∙◌}
use mathlib.Core.Bool.{Bool, true, false, not, cond, ◌&&◌, true≢false}
use mathlib.Core.List.{List, [], ◌∷◌}
use Prim.Native.Nat.{ℕ, ◌<◌}
use lib.ListN.{length}
use lib.Dec.{leb}
use lib.Seq.{sets}
use borrow.Author.Tests.{not-true}
use Rattle.read.specs.declared.Fault.{Fault}
use Rattle.finding.specs.Find.{recorded}
use Rattle.grammar.specs.declared.Command.{Command}
use Rattle.grammar.specs.declared.Command.TheVariants.{Item as item, End, Page, Forms, Pictures, Values, Listing, Clock}
use Rattle.grammar.specs.declared.FormCommand.TheVariants.{Start, Retrieve, Erase as EraseForm}
use Rattle.grammar.specs.declared.PictureCommand.TheVariants.{Store, Erase as ErasePicture}
use Rattle.grammar.specs.declared.ValueCommand.TheVariants.{Variable as EnterVariable, Counter as EnterCounter, Clear, Print}
use Rattle.grammar.specs.declared.ListingCommand.TheVariants.{Forms as ListForms, Pictures as ListPictures, Form as ListForm}
use Rattle.read.specs.declared.Fault.TheVariants.{Form as form, Limit}
use Rattle.front.specs.declared.Front.{Front}
use Rattle.front.specs.declared.Front.TheVariants.{Short, Long as LongLine, Idle, Line}
use Rattle.read.specs.Commands.{read_of}
use Rattle.front.specs.Front.{front_of}
use Rattle.font.specs.Rules.{legal}
use Rattle.sound.specs.Sound.{sound}
use Rattle.session.specs.declared.Session.{Session}
use Rattle.answers.specs.declared.Answer.{Answer}
use Rattle.answers.specs.declared.Answer.TheVariants.{Taken}
use Rattle.answers.specs.Answers.{Row, row, answer_of, is_taken, number_of}
use Rattle.lent.specs.Lent.{World, rows_of, wrong_lent}
use Rattle.results.specs.World.{State}
use Rattle.results.specs.Result.{done, ran, ran_by}
use Rattle.commands.specs.Rows.{record_rows, run_rows, placed_rows, line_rows}
use Rattle.commands.specs.Does.{does_line, lists_line}
use Rattle.commands.specs.Running.{line_by}
use Rattle.commands.proofs.Ends.{line_read}
use Rattle.calls.specs.declared.Outcome.{Outcome}
use Rattle.calls.specs.Outcomes.{After, after, outcome}
use Rattle.unread.specs.Front.{line_of, more_of, front_answer, front_read, read_by, is_line, line_in}
use Rattle.unread.proofs.Lengths.{line-is, line-short, line-least}
use Rattle.calls.specs.Table.{entry_rows, front_rows, command_table}
use Rattle.calls.specs.Station.{does_front, lists_front, accepted, refused, read_as, commanded}
use Rattle.sound.proofs.EntryRows.{checked, entry-passed, entry-right}
use Rattle.std.specs.Prelude.{None, Option, Some}

-- ---- a command call that ends there

early-call :
    (x y z : Bool) (rows : List Row) (input output : List ℕ) (s : Session) (w : World) (t : After) → is_taken (answer_of (checked x y z [])) ≡ false →
    after (outcome (answer_of (checked x y z [])) s 0 0) w output
    ≡ cond (is_taken (answer_of (checked x y z rows))) t
    (refused (answer_of (checked x y z rows)) (read_by (answer_of (checked x y z rows)) input) s w output)
unfolding answer_of is_taken number_of read_by
early-call true y z rows input output s w t h = refl
early-call false false z rows input output s w t h = refl
early-call false true false rows input output s w t h = refl
early-call false true true rows input output s w t h = absurd (true≢false h)

pub command-refused :
    (s : Session) (font : List ℕ) (w : World) (output input : List ℕ) (x : Bool) (a : Answer) (b : Bool) →
    x ≡ wrong_lent w → a ≡ answer_of (entry_rows x font s w []) → b ≡ is_taken a → not b ≡ true →
    after (outcome a s 0 0) w output ≡ commanded s font w output input
unfolding commanded command_table
command-refused s font w output input x a b q e f n =
    ap (λ (k : Answer). after (outcome k s 0 0) w output) (e ∙ ap (λ (k : Bool). answer_of (entry_rows k font s w [])) q)
    ∙ early-call (wrong_lent w) (legal font) (sound s w) (front_rows w s input (length output) (front_of input)) input output s w _
    (ap (λ (k : Bool). is_taken (answer_of (entry_rows k font s w []))) (sym q) ∙ sym (ap is_taken e) ∙ sym f ∙ not-true b n)

-- ---- a command call, by the front of its input

abbrev read_from : Answer → Front → ℕ
read_from a f = cond (leb 1 (number_of a) && leb (number_of a) 4) 0 (front_read f)

abbrev answered : Session → List ℕ → World → List ℕ → List ℕ → Front → Answer → After
answered s font w output input f a =
    cond (is_taken a) (accepted (read_from a f) (does_front font w s input f) (lists_front w input f) output) (refused a (read_from a f) s w output)

abbrev fronted : Session → List ℕ → World → List ℕ → List ℕ → Front → After
fronted s font w output input f = answered s font w output input f (answer_of (front_rows w s input (length output) f))

command-passed :
    (s : Session) (font : List ℕ) (w : World) (output input : List ℕ) (f : Front) (x : Bool) (a : Answer) (b : Bool) →
    x ≡ wrong_lent w → a ≡ answer_of (entry_rows x font s w []) → b ≡ is_taken a → not b ≡ false → front_of input ≡ f →
    commanded s font w output input ≡ fronted s font w output input f
unfolding commanded command_table read_by
command-passed s font w output input f x a b q e g n h =
    ap (answered s font w output input (front_of input))
    (entry-passed (wrong_lent w) font s w (front_rows w s input (length output) (front_of input)) a b
    (e ∙ ap (λ (k : Bool). answer_of (entry_rows k font s w [])) q) g n)
    ∙ ap (fronted s font w output input) h

front-other :
    (s : Session) (font : List ℕ) (w : World) (output input : List ℕ) (f : Front) → is_line f ≡ false →
    fronted s font w output input f ≡ after (outcome (front_answer f) s (front_read f) 0) w output
unfolding answer_of is_taken number_of
front-other s font w output input Short e = refl
front-other s font w output input (LongLine k) e = refl
front-other s font w output input (Idle k) e = refl
front-other s font w output input (Line n k) e = absurd (true≢false e)

-- ---- a line: no answer from 6 on is one of 1 to 4

abbrev late : Answer → Bool
late a = not (leb 1 (number_of a) && leb (number_of a) 4)

abbrev all_late : List Row → Bool
all_late [] = true
all_late (r ∷ rs) = late r.answer && all_late rs

late-first : (a : Answer) (b : Bool) (rs : List Row) → (late a && all_late rs) ≡ true → late (answer_of rs) ≡ true → late (answer_of (row a b ∷ rs)) ≡ true
unfolding answer_of
late-first a true rs e f = first (late a) (all_late rs) e
  where
    first : (p q : Bool) → (p && q) ≡ true → p ≡ true
    first true q h = refl
    first false q h = h
late-first a false rs e f = f

all_rest : (p q : Bool) → (p && q) ≡ true → q ≡ true
all_rest true q e = e
all_rest false q e = absurd (true≢false (sym e))

late-answer : (rs : List Row) → all_late rs ≡ true → late (answer_of rs) ≡ true
unfolding answer_of number_of
late-answer [] e = refl
late-answer (r ∷ rs) e = late-first r.answer r.applies rs e (late-answer rs (all_rest (late r.answer) (all_late rs) e))

late-record : (w : World) (s : Session) (line : List ℕ) (i : ℕ) (c : Command) → all_late (record_rows w s line i c) ≡ true
unfolding number_of
late-record w s line i (item it) = refl
late-record w s line i End = refl
late-record w s line i (Page c) = refl
late-record w s line i (Forms c) = refl
late-record w s line i (Pictures c) = refl
late-record w s line i (Values c) = refl
late-record w s line i (Listing c) = refl
late-record w s line i (Clock c) = refl

late-run : (w : World) (s : Session) (line more : List ℕ) (room : ℕ) (c : Command) → all_late (run_rows w s line more room c) ≡ true
unfolding number_of
late-run w s line more room (item it) = refl
late-run w s line more room End = refl
late-run w s line more room (Page c) = refl
late-run w s line more room (Forms (Start n)) = refl
late-run w s line more room (Forms (Retrieve n)) = refl
late-run w s line more room (Forms (EraseForm n)) = refl
late-run w s line more room (Pictures (Store p)) = refl
late-run w s line more room (Pictures (ErasePicture n)) = refl
late-run w s line more room (Values (EnterVariable v)) = refl
late-run w s line more room (Values (EnterCounter c)) = refl
late-run w s line more room (Values Clear) = refl
late-run w s line more room (Values (Print p)) = refl
late-run w s line more room (Listing ListForms) = refl
late-run w s line more room (Listing ListPictures) = refl
late-run w s line more room (Listing (ListForm n)) = refl
late-run w s line more room (Clock c) = refl

late-placed : (w : World) (s : Session) (line more : List ℕ) (room : ℕ) (c : Command) (f : Option ℕ) → all_late (placed_rows w s line more room c f) ≡ true
late-placed w s line more room c (Some i) = late-record w s line i c
late-placed w s line more room c None = late-run w s line more room c

late-line : (w : World) (s : Session) (line more : List ℕ) (room : ℕ) (r : Result Command Fault) → all_late (line_rows w s line more room r) ≡ true
unfolding number_of
late-line w s line more room (Err (form p)) = refl
late-line w s line more room (Err (Limit p)) = refl
late-line w s line more room (Ok c) = late-placed w s line more room c (recorded w.directory)

line-choice :
    (t e : Bool) (a : Answer) (s : Session) (w : World) (o : List ℕ) (k : ℕ) (st : State) (bytes : List ℕ) → not e ≡ true →
    cond t (accepted (cond e 0 k) st bytes o) (refused a (cond e 0 k) s w o)
    ≡ read_as k (cond t (ran (done Taken st.session (length bytes)) st.world (sets o 0 bytes)) (ran (done a s 0) w o))
line-choice true false a s w o k st bytes h = refl
line-choice false false a s w o k st bytes h = refl
line-choice t true a s w o k st bytes h = absurd (true≢false (sym h))

line-call :
    (s : Session) (font : List ℕ) (w : World) (o line more : List ℕ) (k : ℕ) (r : Result Command Fault) (a : Answer) → a ≡ answer_of (line_rows w s line more (length o) r) →
    cond (is_taken a) (accepted (cond (leb 1 (number_of a) && leb (number_of a) 4) 0 k) (does_line font w s line more r) (lists_line w line r) o)
    (refused a (cond (leb 1 (number_of a) && leb (number_of a) 4) 0 k) s w o)
    ≡ read_as k (ran_by a s w o (does_line font w s line more r) (lists_line w line r))
line-call s font w o line more k r a e =
    line-choice (is_taken a) (leb 1 (number_of a) && leb (number_of a) 4) a s w o k (does_line font w s line more r) (lists_line w line r)
    (ap late e ∙ late-answer (line_rows w s line more (length o) r) (late-line w s line more (length o) r))

front-line :
    (s : Session) (font : List ℕ) (w : World) (output input : List ℕ) (n k : ℕ) → wrong_lent w ≡ false → n < 256 →
    fronted s font w output input (Line n k) ≡ read_as k (line_by font w s (line_of input n) (more_of input n k) output)
front-line s font w output input n k h l =
    line-call s font w output (line_of input n) (more_of input n k) k (read_of (rows_of w) (line_of input n))
    (answer_of (line_rows w s (line_of input n) (more_of input n k) (length output) (read_of (rows_of w) (line_of input n)))) refl
    ∙ ap (read_as k)
    (line_read font w s (line_of input n) (more_of input n k) output (read_of (rows_of w) (line_of input n)) h (line-least input n l) refl)

-- ---- a command call that passes the checks, from its own steps to `commanded`

module _ (s : Session) (font : List ℕ) (w : World) (output input : List ℕ) (a : Answer) (b : Bool) (f : Front) (l : Bool) (m : ℕ)
    (e : a ≡ answer_of (entry_rows (wrong_lent w) font s w [])) (g : b ≡ is_taken a) (n : not b ≡ false) (h : f ≡ front_of input) (d : m ≡ front_read f)
    (i : l ≡ is_line f) where
  pub command-other : (o : Answer) (r : Outcome) → l ≡ false → o ≡ front_answer f → r ≡ outcome o s m 0 → after r w output ≡ commanded s font w output input
  command-other o r t p z =
      ap (λ (x : Outcome). after x w output) (z ∙ (λ j. outcome (p j) s (d j) 0))
      ∙ sym (command-passed s font w output input f (wrong_lent w) a b refl e g n (sym h) ∙ front-other s font w output input f (sym i ∙ t))

  pub command-line :
      (k : ℕ) (t : After) → l ≡ true → k ≡ line_in f → t ≡ read_as m (line_by font w s (line_of input k) (more_of input k m) output) →
      t ≡ commanded s font w output input
  command-line k t y p z =
      let v : front_of input ≡ Line (line_in f) (front_read f) = sym h ∙ line-is f (sym i ∙ y) in
      z
      ∙ (λ j. read_as (d j) (line_by font w s (line_of input (p j)) (more_of input (p j) (d j)) output))
      ∙ sym
      (command-passed s font w output input (Line (line_in f) (front_read f)) (wrong_lent w) a b refl e g n v
      ∙ front-line s font w output input (line_in f) (front_read f) (entry-right (wrong_lent w) (wrong_lent w) font s w a b refl e g n)
      (line-short input (line_in f) (front_read f) v))
