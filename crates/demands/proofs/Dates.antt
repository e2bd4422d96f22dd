-- Paper 02, §10: the clock and the formats, through any calls.
-- Assumes nothing.
use Rattle.std.proofs.Common.{Some}
use mathlib.Core.Path.{◌≡◌, refl, sym, ap, ◌∙◌, subst}
use mathlib.Core.Bool.{Bool, true, false, cond, ◌&&◌, ◌||◌}
use mathlib.Core.List.{List, [], ◌∷◌}
use Prim.Native.Nat.{ℕ, ◌+◌, ◌≤◌, ◌<◌}
use native.Mathlib.Omega.{arith}
use lib.ListN.{length}
use lib.Dec.{eqb, leb}
use borrow.Author.Tests.{le-leb, lt-leb}
use Rattle.std.proofs.Common.{Ok, Err}
use Rattle.calendar.specs.declared.Clock.{Clock as Time}
use Rattle.calendar.specs.declared.Unmoved.TheVariants.{NoClock, TooLong}
use Rattle.calendar.specs.Clock.{legal_clock, last, after as later, moved}
use Rattle.calendar.proofs.Ticks.{after-legal, after-after, after_last, never-past}
use Rattle.formats.specs.declared.Formats.{Formats}
use Rattle.formats.specs.Formats.{examples, with_format}
use Rattle.declarations.specs.Declarations.{nothing, formatted as showing}
use Rattle.font.specs.Rules.{legal as legal_font}
use Rattle.grammar.specs.declared.SetClock.{SetClock}
use Rattle.grammar.specs.declared.SetFormat.{SetFormat}
use Rattle.grammar.specs.declared.Item.{Item}
use Rattle.grammar.specs.declared.Item.TheVariants.{Origin, Variable, Counter, Text, Bars, Box, Frame, Slant, Picture, Format}
use Rattle.grammar.specs.declared.Command.{Command}
use Rattle.grammar.specs.declared.Command.TheVariants.{Item as item, End, Page, Forms, Pictures, Values, Listing, Clock}
use Rattle.grammar.specs.declared.PageCommand.TheVariants.{Length, Width, Turn, White}
use Rattle.grammar.specs.declared.FormCommand.TheVariants.{Start, Retrieve, Erase as EraseForm}
use Rattle.grammar.specs.declared.PictureCommand.TheVariants.{Store, Erase as ErasePicture}
use Rattle.grammar.specs.declared.ValueCommand.TheVariants.{Variable as EnterVariable, Counter as EnterCounter, Clear, Print}
use Rattle.std.specs.Prelude.{None, Option, Some}
use Rattle.finding.specs.Find.{recorded}
use Rattle.recording.specs.Judged.{declaration, declares, has_picture}
use Rattle.kept_line.specs.Held.{item_in}
use Rattle.carried.specs.Carried.{carried}
use Rattle.item_drawing.specs.Draw.{Setting, draws_item}
use Rattle.form_drawing.specs.Draw.{Drawing, drawing, draws_line}
use Rattle.item_commands.specs.Items.{based_by, declared_before, not_declared, reaches_past, unfit_data}
use Rattle.clock_commands.specs.Clocks.{clock_said}
use Rattle.clock_call.specs.Passing.{passed, passed_by}
use Rattle.results.specs.Named.{named, erased_named, erased_every, place_of}
use Rattle.results.specs.World.{State, state, inactive}
use Rattle.commands.specs.Forms.{erased_form}
use Rattle.session.specs.declared.Session.{Session}
use Rattle.session.specs.declared.Labelled.{Labelled}
use Rattle.session.specs.Session.{clocked, formatted}
use Rattle.session.specs.Label.{label_page, label_session, labelled}
use Rattle.answers.specs.declared.Answer.TheVariants.{Taken, Unsound, Limits}
use Rattle.answers.specs.Answers.{is_taken, number_of, answer_of}
use Rattle.lent.specs.Lent.{World}
use Rattle.commands.specs.Does.{records, runs, placed}
use Rattle.keeps_sound.specs.Outcomes.{After, after, outcome, Drawn}
use Rattle.keeps_sound.specs.Table.{label_table}
use Rattle.unread.specs.Front.{line_of, more_of}
use Rattle.keeps_sound.specs.Station.{labelled_by}
use Rattle.keeps_sound.specs.Good.{Good}
use Rattle.keeps_sound.specs.Calls.{Call, command, label, pass, called, through}
use Rattle.keeps_sound.proofs.Passing.{passed-keeps}
use Rattle.demands.specs.Calls.{Asked, answered, Says, Avoids, Without}
use Rattle.demands.specs.Dates.{SetsClock, SetsFormat, seconds_in}
use Rattle.demands.proofs.Taking.{command-taken, command-done}
use Rattle.demands.proofs.Said.{by_said}

-- ---- one clock call

module _ (s : Session) (n : ℕ) where
  pub pass-moves : legal_clock s.clock ≡ true → n ≤ 86400 → passed s n ≡ labelled Taken (clocked s (later s.clock n))
  unfolding passed moved
  pass-moves h l = rw (h, le-leb n 86400 l)

  -- 3, and 7 behind it
  pub pass-none : legal_clock s.clock ≡ false → passed s n ≡ labelled Unsound s
  unfolding passed moved
  pass-none h = rw h

  pub pass-long : legal_clock s.clock ≡ true → 86400 < n → passed s n ≡ labelled (Limits 0) s
  unfolding passed moved
  pass-long h l = rw (h, lt-leb n 86400 l)

  pub pass-never : legal_clock s.clock ≡ true → (passed s n).answer ≡ Unsound → ⊥
  unfolding passed moved number_of
  pass-never h e = go (leb n 86400) (rw h at e)
    where
      go : (b : Bool) → (passed_by s (cond b (Ok (later s.clock n)) (Err TooLong))).answer ≡ Unsound → ⊥
      go true k = let z : ◌≡◌ {A = ℕ} 0 3 = ap number_of k in omega (arith, z)
      go false k = let z : ◌≡◌ {A = ℕ} 7 3 = ap number_of k in omega (arith, z)

  -- the clock that it leaves
  pass-clock : legal_clock s.clock ≡ true → (passed s n).session.clock ≡ later s.clock (cond (leb n 86400) n 0)
  unfolding passed moved later
  pass-clock h = go (leb n 86400) refl
    where
      go : (b : Bool) → leb n 86400 ≡ b → (passed_by s (moved s.clock n)).session.clock ≡ later s.clock (cond b n 0)
      go true e = rw (h, e)
      go false e = rw (h, e)

  pub pass-within : legal_clock s.clock ≡ true → (passed s n).session.clock.year ≤ 99
  pass-within h = rw (pass-clock h) (never-past s.clock (cond (leb n 86400) n 0) h)

  -- at the last second it stands
  pub pass-stands : s.clock ≡ last → (passed s n).session.clock ≡ last
  unfolding passed moved
  pass-stands e = go (legal_clock s.clock) (leb n 86400)
    where
      go : (a b : Bool) → (passed_by s (cond a (cond b (Ok (later s.clock n)) (Err TooLong)) (Err NoClock))).session.clock ≡ last
      go true true = rw e (after_last n)
      go true false = e
      go false b = e

pub pass-twice :
    (s : Session) (m n : ℕ) → legal_clock s.clock ≡ true → m + n ≤ 86400 → passed (passed s m).session n ≡ passed s (m + n)
pass-twice s m n h l =
    let a = pass-moves s m h (omega arith) in
    ap (λ (x : Labelled). passed x.session n) a
    ∙ pass-moves (clocked s (later s.clock m)) n (after-legal s.clock m h) (omega arith)
    ∙ ap (λ (c : Time). labelled Taken (clocked s c)) (after-after s.clock m n)
    ∙ sym (pass-moves s (m + n) h l)

-- ---- what a command leaves of clock and formats

-- what holds of clock and formats as they were, with the clock of a TS and with the format of a TD or TT sent outside a form, holds of what a command leaves
module _ (font : List ℕ) (w : World) (s : Session) (line more : List ℕ) (P : Time → Formats → Type 0) (same : P s.clock s.formats) where
  abbrev Left : State → Type 0
  Left st = P st.session.clock st.session.formats

  picked : (b : Bool) (x y : State) → Left x → Left y → Left (cond b x y)
  picked true x y p q = p
  picked false x y p q = q

  abbrev Setting-format : Item → Type 0
  Setting-format it = (f : SetFormat) → it ≡ Format f → P s.clock (with_format s.formats f.stamp f.format)

  based : (it : Item) → Setting-format it → P (based_by s it).clock (based_by s it).formats
  based (Origin o) k = same
  based (Variable v) k = same
  based (Counter c) k = same
  based (Text t) k = same
  based (Bars b) k = same
  based (Box b) k = same
  based (Frame f) k = same
  based (Slant l) k = same
  based (Picture p) k = same
  based (Format f) k = k f refl

  erased : (f : Option ℕ) → Left (erased_named s w f)
  erased (Some i) = same
  erased None = same

  ran : (c : Command) → ((k : SetClock) → c ≡ Clock k → P (clock_said k) s.formats) → ((it : Item) → c ≡ item it → Setting-format it) → Left (runs font w s line more c)
  ran (item it) p q = based it (q it refl)
  ran End p q = same
  ran (Page (Length l)) p q = same
  ran (Page (Width m)) p q = same
  ran (Page (Turn t)) p q = same
  ran (Page White) p q = same
  ran (Forms (Start n)) p q = same
  ran (Forms (Retrieve n)) p q = same
  ran (Forms (EraseForm n)) p q =
      let found = named w false line n in
      picked n.all (inactive (erased_every s w false)) (erased_form s w found) same
      (picked (eqb s.active (place_of found)) (inactive (erased_named s w found)) (erased_named s w found) (erased found) (erased found))
  ran (Pictures (Store x)) p q = same
  ran (Pictures (ErasePicture n)) p q = picked n.all (erased_every s w true) (erased_named s w (named w true line n)) same (erased (named w true line n))
  ran (Values (EnterVariable v)) p q = same
  ran (Values (EnterCounter c)) p q = same
  ran (Values Clear) p q = same
  ran (Values (Print k)) p q = same
  ran (Listing c) p q = same
  ran (Clock k) p q = p k refl

  -- a recorded line is not run
  recording : (i : ℕ) (c : Command) → Left (records w s line i c)
  recording i (item it) = same
  recording i End = same
  recording i (Page c) = same
  recording i (Forms c) = same
  recording i (Pictures c) = same
  recording i (Values c) = same
  recording i (Listing c) = same
  recording i (Clock c) = same

  pub left :
      (f : Option ℕ) (c : Command) → ((k : SetClock) → c ≡ Clock k → P (clock_said k) s.formats) →
      (f ≡ None → (it : Item) → c ≡ item it → Setting-format it) → Left (placed font w s line more c f)
  left (Some i) c p q = recording i c
  left None c p q = ran c p (q refl)

-- a label call leaves both
counted-left : (P : Time → Formats → Type 0) (b : Bool) (x y : Session) → P x.clock x.formats → P y.clock y.formats → P (cond b x y).clock (cond b x y).formats
counted-left P true x y p q = p
counted-left P false x y p q = q

drawn-left :
    (P : Time → Formats → Type 0) (b : Bool) (x y : Drawn) → P x.outcome.session.clock x.outcome.session.formats →
    P y.outcome.session.clock y.outcome.session.formats → P (cond b x y).outcome.session.clock (cond b x y).outcome.session.formats
drawn-left P true x y p q = p
drawn-left P false x y p q = q

label-left :
    (P : Time → Formats → Type 0) (s : Session) (font : List ℕ) (w : World) (page : List ℕ) → P s.clock s.formats →
    P (labelled_by s font w page).outcome.session.clock (labelled_by s font w page).outcome.session.formats
unfolding labelled_by label_session
label-left P s font w page p =
    drawn-left P (is_taken (answer_of (label_table s font w (length page)))) _ _ (counted-left P (eqb s.owed 0 || eqb s.drawn 65535) _ _ p p) p

-- ---- through any calls

-- "the clock as one more input, changed only by TS and that call"
command-clock : (st : State) (font output input : List ℕ) → Avoids SetsClock (command font output input) st → (called st (command font output input)).session.clock ≡ st.session.clock
command-clock st font output input avoids =
    by_said st.session font st.world output input (λ (x : State). x.session.clock ≡ st.session.clock) refl
    (λ c r t.
    ap (λ (a : After). a.outcome.session.clock) (command-done st.session font st.world output input c r t).does
    ∙ left font st.world st.session (line_of input r.line) (more_of input r.line r.whole) (λ k f. k ≡ st.session.clock) refl
    (recorded st.world.directory) c
    (λ k e. absurd (avoids (record { clock = k; says = subst (Says st.world input) e r }) t))
    (λ q it e f i. refl))

pub clock-goes :
    (cs : List Call) (st : State) → Without SetsClock cs st → legal_clock st.session.clock ≡ true →
    (through st cs).session.clock ≡ later st.session.clock (seconds_in cs)
unfolding later
clock-goes [] st a h = refl
clock-goes (command font output input ∷ cs) st a h =
    let e = command-clock st font output input a.0 in
    clock-goes cs (called st (command font output input)) a.1 (ap legal_clock e ∙ h) ∙ ap (λ (c : Time). later c (seconds_in cs)) e
clock-goes (label font page ∷ cs) st a h =
    let e = label-left (λ k f. k ≡ st.session.clock) st.session font st.world page refl in
    clock-goes cs (called st (label font page)) a.1 (ap legal_clock e ∙ h) ∙ ap (λ (c : Time). later c (seconds_in cs)) e
clock-goes (pass n ∷ cs) st a h =
    let e = pass-clock st.session n h in
    let k = cond (leb n 86400) n 0 in
    clock-goes cs (called st (pass n)) a.1 (ap legal_clock e ∙ after-legal st.session.clock k h)
    ∙ ap (λ (c : Time). later c (seconds_in cs)) e
    ∙ after-after st.session.clock k (seconds_in cs)

-- "formats sent outside a form": nothing else changes those of the session
command-formats :
    (st : State) (font output input : List ℕ) → Avoids SetsFormat (command font output input) st →
    (called st (command font output input)).session.formats ≡ st.session.formats
command-formats st font output input avoids =
    by_said st.session font st.world output input (λ (x : State). x.session.formats ≡ st.session.formats) refl
    (λ c r t.
    ap (λ (a : After). a.outcome.session.formats) (command-done st.session font st.world output input c r t).does
    ∙ left font st.world st.session (line_of input r.line) (more_of input r.line r.whole) (λ k f. f ≡ st.session.formats) refl
    (recorded st.world.directory) c
    (λ k e. refl)
    (λ q it e f i. absurd (avoids (record { format = f; says = subst (Says st.world input) (e ∙ ap item i) r; outside = q }) t)))

pub formats-stay : (cs : List Call) (st : State) → Without SetsFormat cs st → (through st cs).session.formats ≡ st.session.formats
formats-stay [] st a = refl
formats-stay (command font output input ∷ cs) st a = formats-stay cs (called st (command font output input)) a.1 ∙ command-formats st font output input a.0
formats-stay (label font page ∷ cs) st a =
    formats-stay cs (called st (label font page)) a.1 ∙ label-left (λ k f. f ≡ st.session.formats) st.session font st.world page refl
formats-stay (pass n ∷ cs) st a = formats-stay cs (called st (pass n)) a.1 ∙ passed-keeps (λ x. x.formats) st.session n (λ c. refl)

-- ---- TS, TD and TT outside a form

module _ (s : Session) (w : World) (g : Good s w) (none : s.owed ≡ 0) (quiet : recorded w.directory ≡ None) (a : Asked) (legal : legal_font a.font ≡ true) where
  pub clock-taken :
      (c : SetClock) (r : Says w a.input (Clock c)) → answered s w a ≡ after (outcome Taken (clocked s (clock_said c)) r.whole 0) w a.output
  clock-taken c r = command-taken s w a.font g legal a.output a.input (Clock c) r none (rw quiet) ∙ rw quiet

  pub format-taken :
      (f : SetFormat) (r : Says w a.input (item (Format f))) →
      answered s w a ≡ after (outcome Taken (formatted s (with_format s.formats f.stamp f.format)) r.whole 0) w a.output
  unfolding declaration has_picture declared_before not_declared reaches_past unfit_data draws_item
  format-taken f r = command-taken s w a.font g legal a.output a.input (item (Format f)) r none (rw quiet) ∙ rw quiet

-- ---- on a label

-- the session's formats are not looked at
pub label-any-formats : (font : List ℕ) (s : Session) (fs : Formats) (w : World) → label_page font (formatted s fs) w ≡ label_page font s w
unfolding label_page
label-any-formats font s fs w = refl

-- a line of TD or TT draws nothing, and leaves its format to the lines behind it
pub format-on-label :
    (g : Setting) (t : Drawing) (line : List ℕ) (f : SetFormat) → item_in line ≡ Some (Format f) →
    draws_line g t line ≡ drawing (carried (showing t.carried.declared f.stamp f.format) t.carried.origin) t.page
unfolding draws_line declares draws_item
format-on-label g t line f e = rw e
