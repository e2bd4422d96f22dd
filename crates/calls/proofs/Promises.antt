-- Theorems about the three calls: a refusal keeps what was lent, and two outcomes of one call are equal.
-- Assumes nothing.
use mathlib.Core.Path.{◌≡◌, refl, sym, ap, ◌∙◌}
use mathlib.Core.Bool.{Bool, true, false, not, cond, ◌&&◌, ◌||◌, true≢false}
use mathlib.Core.List.{List}
use Prim.Native.Nat.{ℕ}
use lib.ListN.{length}
use lib.Dec.{eqb, leb}
use borrow.Author.Tests.{eqb-true}
use Rattle.front.specs.Front.{front_of}
use Rattle.unread.specs.Front.{front_read, read_by}
use Rattle.cells.specs.Cell.{zeros}
use Rattle.session.specs.declared.Session.{Session}
use Rattle.answers.specs.declared.Answer.{Answer}
use Rattle.answers.specs.declared.Answer.TheVariants.{Taken, Lengths}
use Rattle.answers.specs.Answers.{answer_of, is_taken, number_of}
use Rattle.session.specs.Session.{none, fresh}
use Rattle.lent.specs.Lent.{World, rows_of, wrong_lent}
use Rattle.calls.specs.Outcomes.{After, after, outcome, Drawn, drawn_by, labelled, Opened, opened_by}
use Rattle.calls.specs.Table.{command_table, label_table}
use Rattle.commands.specs.World.{State}
use Rattle.calls.specs.Station.{cleared, opened, does_front, lists_front, accepted, refused, commanded, label_page, label_session, labelled_by}

-- ---- a label call that is refused keeps session and page

label-keeps :
    (t : Bool) (a : Answer) (s : Session) (page : List ℕ) (c : Drawn) → c.outcome.answer ≡ Taken →
    is_taken (cond t c (drawn_by (labelled a s) page)).outcome.answer ≡ false →
    cond t c (drawn_by (labelled a s) page) ≡ drawn_by (labelled (cond t c (drawn_by (labelled a s) page)).outcome.answer s) page
unfolding is_taken number_of
label-keeps true a s page c e h = absurd (true≢false (sym (ap is_taken e) ∙ h))
label-keeps false a s page c e h = refl

pub label-refusal-keeps :
    (s : Session) (font : List ℕ) (w : World) (page : List ℕ) → is_taken (labelled_by s font w page).outcome.answer ≡ false →
    labelled_by s font w page ≡ drawn_by (labelled (labelled_by s font w page).outcome.answer s) page
unfolding labelled_by
label-refusal-keeps s font w page h =
    label-keeps (is_taken (answer_of (label_table s font w (length page)))) (answer_of (label_table s font w (length page))) s page
    (drawn_by (labelled Taken (label_session s w)) (label_page font s w)) refl h

-- ---- an opening that is refused keeps every list, and returns zeros

open-keeps :
    (t : Bool) (page : List ℕ) (w : World) (c : Opened) → c.outcome.answer ≡ Taken →
    is_taken (cond t (opened_by (labelled Lengths none) page w) c).outcome.answer ≡ false →
    cond t (opened_by (labelled Lengths none) page w) c ≡ opened_by (labelled Lengths none) page w
unfolding is_taken number_of
open-keeps true page w c e h = refl
open-keeps false page w c e h = absurd (true≢false (sym (ap is_taken e) ∙ h))

pub open-refusal-keeps :
    (page : List ℕ) (w : World) → is_taken (opened page w).outcome.answer ≡ false → opened page w ≡ opened_by (labelled Lengths none) page w
unfolding opened
open-refusal-keeps page w h =
    open-keeps (wrong_lent w || not (eqb (length page) (length w.background))) page w
    (opened_by (labelled Taken (fresh (rows_of w) (length w.links))) (zeros (length page)) (cleared w)) refl h

-- ---- a command that is refused keeps session, every list and the output

command-keeps :
    (t : Bool) (a : Answer) (n : Answer → ℕ) (s : Session) (w : World) (output : List ℕ) (c : After) → c.outcome.answer ≡ Taken →
    is_taken (cond t c (after (outcome a s (n a) 0) w output)).outcome.answer ≡ false →
    cond t c (after (outcome a s (n a) 0) w output)
    ≡ after (outcome (cond t c (after (outcome a s (n a) 0) w output)).outcome.answer s (n (cond t c (after (outcome a s (n a) 0) w output)).outcome.answer) 0) w output
unfolding is_taken number_of
command-keeps true a n s w output c e h = absurd (true≢false (sym (ap is_taken e) ∙ h))
command-keeps false a n s w output c e h = refl

pub command-refusal-keeps :
    (s : Session) (font : List ℕ) (w : World) (output input : List ℕ) → is_taken (commanded s font w output input).outcome.answer ≡ false →
    commanded s font w output input
    ≡ after (outcome (commanded s font w output input).outcome.answer s (read_by (commanded s font w output input).outcome.answer input) 0) w output
unfolding commanded
command-refusal-keeps s font w output input h =
    command-keeps (is_taken (answer_of (command_table s font w (length output) input))) (answer_of (command_table s font w (length output) input)) (λ (a : Answer). read_by a input) s w output _ refl h

-- ---- what a command call reads is told by its answer and its input alone, so that `rest` gives what the call left unread

taken-reads : (a : Answer) (input : List ℕ) → is_taken a ≡ true → read_by a input ≡ read_by Taken input
unfolding is_taken number_of read_by
taken-reads a input h = ap (λ (n : ℕ). cond (leb 1 n && leb n 4) 0 (front_read (front_of input))) (eqb-true (number_of a) 0 h)

either-reads :
    (t : Bool) (a : Answer) (n : Answer → ℕ) (s : Session) (w : World) (output : List ℕ) (st : State) (bytes : List ℕ) → (t ≡ true → n a ≡ n Taken) →
    (cond t (accepted (n a) st bytes output) (refused a (n a) s w output)).outcome.read
    ≡ n (cond t (accepted (n a) st bytes output) (refused a (n a) s w output)).outcome.answer
either-reads true a n s w output st bytes h = h refl
either-reads false a n s w output st bytes h = refl

pub command-reads :
    (s : Session) (font : List ℕ) (w : World) (output input : List ℕ) →
    (commanded s font w output input).outcome.read ≡ read_by (commanded s font w output input).outcome.answer input
unfolding commanded
command-reads s font w output input =
    let a : Answer = answer_of (command_table s font w (length output) input) in
    either-reads (is_taken a) a (λ (b : Answer). read_by b input) s w output (does_front font w s input (front_of input)) (lists_front w input (front_of input)) (taken-reads a input)

-- ---- two outcomes of one call are equal

pub label-outcomes-equal :
    (s : Session) (font : List ℕ) (w : World) (page : List ℕ) (x y : Drawn) → x ≡ labelled_by s font w page → y ≡ labelled_by s font w page → x ≡ y
label-outcomes-equal s font w page x y e f = e ∙ sym f

pub open-outcomes-equal : (page : List ℕ) (w : World) (x y : Opened) → x ≡ opened page w → y ≡ opened page w → x ≡ y
open-outcomes-equal page w x y e f = e ∙ sym f

pub command-outcomes-equal :
    (s : Session) (font : List ℕ) (w : World) (output input : List ℕ) (x y : After) →
    x ≡ commanded s font w output input → y ≡ commanded s font w output input → x ≡ y
command-outcomes-equal s font w output input x y e f = e ∙ sym f
