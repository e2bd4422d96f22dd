-- Paper 02, §6: the number of free portions. What it is on sound memory, that no other is taken, and when it stays.
-- Assumes nothing.
use mathlib.Core.Path.{◌≡◌, refl, sym, ap, ◌∙◌}
use mathlib.Core.Bool.{Bool, true, false, ◌||◌, true≢false, cond}
use mathlib.Core.List.{List, [], ◌∷◌}
use Prim.Native.Nat.{ℕ, ◌+◌}
use native.Mathlib.Omega.{arith}
use lib.ListN.{length}
use lib.Dec.{eqb}
use borrow.Author.Tests.{eqb-true, eq-eqb}
use Rattle.font.specs.Rules.{legal as legal_font}
use Rattle.grammar.specs.declared.Item.{Item}
use Rattle.grammar.specs.declared.Item.TheVariants.{Origin, Variable, Counter, Text, Bars, Box, Frame, Slant, Picture, Format}
use Rattle.grammar.specs.declared.Command.{Command}
use Rattle.grammar.specs.declared.Command.TheVariants.{Item as item, End, Page, Forms, Pictures, Values, Listing, Clock}
use Rattle.grammar.specs.declared.PageCommand.TheVariants.{Length, Width, Turn, White}
use Rattle.grammar.specs.declared.FormCommand.TheVariants.{Start, Retrieve, Erase as EraseForm}
use Rattle.grammar.specs.declared.PictureCommand.TheVariants.{Store, Erase as ErasePicture}
use Rattle.grammar.specs.declared.ValueCommand.TheVariants.{Variable as EnterVariable, Counter as EnterCounter, Clear, Print}
use Rattle.std.specs.Prelude.{None, Option, Some}
use Rattle.finding.specs.Find.{recorded}
use Rattle.store.specs.Chain.{free_count}
use Rattle.store_sound.specs.Sound.{store_sound}
use Rattle.free_number.specs.Number.{called_for, free_number}
use Rattle.session.specs.declared.Session.{Session}
use Rattle.session.specs.Session.{roomed}
use Rattle.answers.specs.declared.Answer.TheVariants.{Unsound}
use Rattle.answers.specs.Answers.{answer_of, is_taken}
use Rattle.lent.specs.Lent.{World, rows_of, wrong_lent}
use Rattle.keeps_sound.specs.Sound.{numbers_ok, times_ok, background_ok, sound}
use Rattle.results.specs.World.{State}
use Rattle.item_commands.specs.Items.{based_by}
use Rattle.commands.specs.Does.{placed}
use Rattle.keeps_sound.specs.Outcomes.{After, Drawn}
use Rattle.keeps_sound.specs.Table.{command_table, label_table}
use Rattle.unread.specs.Front.{line_of, more_of}
use Rattle.keeps_sound.specs.Station.{commanded, label_session, labelled_by}
use Rattle.ground.proofs.Tests.{and_left, and_right, is_false}
use Rattle.keeps_sound.specs.Calls.{Call, command, label, pass, called, through}
use Rattle.keeps_sound.proofs.Passing.{passed-keeps}
use Rattle.keeps_sound.proofs.Layers.{sound-good}
use Rattle.keeps_sound.proofs.Always.{GoodState, called-good}
use Rattle.demands.specs.Calls.{Avoids, Without}
use Rattle.demands.specs.FreeRoom.{storing, Stores}
use Rattle.demands.proofs.Refusal.{command-answer, label-answer}
use Rattle.demands.proofs.Taking.{command-done}
use Rattle.demands.proofs.Said.{by_said}

pub sound-counted : (s : Session) (w : World) → wrong_lent w ≡ false → sound s w ≡ true → s.free ≡ free_count w.links
sound-counted s w long h = (sound-good s w long h).free

-- ---- no other number is sound, and so none is taken

sound-number : (s : Session) (w : World) → sound s w ≡ true → free_number w.links w.directory s.free ≡ true
unfolding sound
sound-number s w h =
    and_left (free_number w.links w.directory s.free) _
    (and_right (store_sound w.store w.links w.directory) _
    (and_right (background_ok s.width s.length w.background) _
    (and_right (times_ok s.clock s.formats) _ (and_right (numbers_ok (rows_of w) s) _ h))))

-- two numbers that both make up the portions lent are one
one_number : (links directory : List ℕ) (m n : ℕ) → free_number links directory m ≡ true → free_number links directory n ≡ true → m ≡ n
unfolding free_number
one_number links directory m n e f =
    let a : m + called_for directory ≡ length links = eqb-true _ _ e in
    let b : n + called_for directory ≡ length links = eqb-true _ _ f in
    omega (arith, a, b)

module _ (s : Session) (w : World) (h : sound s w ≡ true) (n : ℕ) (other : n ≡ s.free → ⊥) where
  pub another-unsound : sound (roomed s n) w ≡ false
  another-unsound =
      is_false (sound (roomed s n) w) (λ e. other (one_number w.links w.directory n s.free (sound-number (roomed s n) w e) (sound-number s w h)))

  module _ (font : List ℕ) (long : wrong_lent w ≡ false) (legal : legal_font font ≡ true) where
    pub command-unsound : (output input : List ℕ) → (commanded (roomed s n) font w output input).outcome.answer ≡ Unsound
    unfolding command_table answer_of
    command-unsound output input = command-answer (roomed s n) font w output input ∙ rw (long, legal, another-unsound)

    pub label-unsound : (page : List ℕ) → length page ≡ length w.background → (labelled_by (roomed s n) font w page).outcome.answer ≡ Unsound
    unfolding label_table answer_of
    label-unsound page same = label-answer (roomed s n) font w page ∙ rw (long, eq-eqb _ _ same, legal, another-unsound)

-- ---- when it stays

-- from sound memory on: where the links stay
pub number-stays : (st : State) → GoodState st → (c : Call) → (called st c).world.links ≡ st.world.links → (called st c).session.free ≡ st.session.free
number-stays st g c same = (called-good st c g).good.free ∙ ap free_count same ∙ sym g.good.free

-- what is no storing and no erasing leaves it, whatever the session and the lists are
module _ (font : List ℕ) (w : World) (s : Session) (line more : List ℕ) where
  based-stays : (it : Item) → (based_by s it).free ≡ s.free
  based-stays (Origin o) = refl
  based-stays (Variable v) = refl
  based-stays (Counter c) = refl
  based-stays (Text t) = refl
  based-stays (Bars b) = refl
  based-stays (Box b) = refl
  based-stays (Frame f) = refl
  based-stays (Slant l) = refl
  based-stays (Picture p) = refl
  based-stays (Format f) = refl

  placed-stays : (f : Option ℕ) (c : Command) → storing f c ≡ false → (placed font w s line more c f).session.free ≡ s.free
  placed-stays (Some i) (item it) e = absurd (true≢false e)
  placed-stays (Some i) End e = refl
  placed-stays (Some i) (Page c) e = refl
  placed-stays (Some i) (Forms c) e = refl
  placed-stays (Some i) (Pictures c) e = refl
  placed-stays (Some i) (Values c) e = refl
  placed-stays (Some i) (Listing c) e = refl
  placed-stays (Some i) (Clock c) e = refl
  placed-stays None (item it) e = based-stays it
  placed-stays None End e = refl
  placed-stays None (Page (Length l)) e = refl
  placed-stays None (Page (Width m)) e = refl
  placed-stays None (Page (Turn t)) e = refl
  placed-stays None (Page White) e = refl
  placed-stays None (Forms (Start n)) e = absurd (true≢false e)
  placed-stays None (Forms (Retrieve n)) e = refl
  placed-stays None (Forms (EraseForm n)) e = absurd (true≢false e)
  placed-stays None (Pictures (Store p)) e = absurd (true≢false e)
  placed-stays None (Pictures (ErasePicture n)) e = absurd (true≢false e)
  placed-stays None (Values (EnterVariable v)) e = refl
  placed-stays None (Values (EnterCounter c)) e = refl
  placed-stays None (Values Clear) e = refl
  placed-stays None (Values (Print p)) e = refl
  placed-stays None (Listing c) e = refl
  placed-stays None (Clock c) e = refl

counted-stays : (b : Bool) (x y : Session) (n : ℕ) → x.free ≡ n → y.free ≡ n → (cond b x y).free ≡ n
counted-stays true x y n e f = e
counted-stays false x y n e f = f

settled-stays : (b : Bool) (x y : Drawn) (n : ℕ) → x.outcome.session.free ≡ n → y.outcome.session.free ≡ n → (cond b x y).outcome.session.free ≡ n
settled-stays true x y n e f = e
settled-stays false x y n e f = f

label-stays : (s : Session) (font : List ℕ) (w : World) (page : List ℕ) → (labelled_by s font w page).outcome.session.free ≡ s.free
unfolding labelled_by label_session
label-stays s font w page =
    settled-stays (is_taken (answer_of (label_table s font w (length page)))) _ _ s.free
    (counted-stays (eqb s.owed 0 || eqb s.drawn 65535) _ _ s.free refl refl) refl

call_stays : (c : Call) (st : State) → Avoids Stores c st → (called st c).session.free ≡ st.session.free
call_stays (label font page) st avoids = label-stays st.session font st.world page
call_stays (pass seconds) st avoids = passed-keeps (λ x. x.free) st.session seconds (λ c. refl)
call_stays (command font output input) st avoids =
    by_said st.session font st.world output input (λ (x : State). x.session.free ≡ st.session.free) refl
    (λ c r t.
    ap (λ (a : After). a.outcome.session.free) (command-done st.session font st.world output input c r t).does
    ∙ placed-stays font st.world st.session (line_of input r.line) (more_of input r.line r.whole) (recorded st.world.directory) c
    (is_false (storing (recorded st.world.directory) c) (λ moves. avoids (record { command = c; says = r; moves = moves }) t)))

pub calls-stay : (cs : List Call) (st : State) → Without Stores cs st → (through st cs).session.free ≡ st.session.free
calls-stay [] st a = refl
calls-stay (c ∷ cs) st a = calls-stay cs (called st c) a.1 ∙ call_stays c st a.0
