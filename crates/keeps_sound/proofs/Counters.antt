-- The counters of a session: what a command leaves of them and of the active form, and that a set one has its form.
-- Assumes nothing.
use Rattle.std.proofs.Common.{Ok, Err}
use mathlib.Core.Path.{◌≡◌, refl, sym, ap, ◌∙◌}
use mathlib.Core.Bool.{Bool, true, false, cond, true≢false}
use mathlib.Core.List.{List}
use mathlib.Core.Logic.{⊎_elim}
use Prim.Native.Nat.{ℕ, ◌<◌, min}
use lib.ListN.{set}
use lib.Dec.{eqb, ltb}
use Rattle.std.specs.Prelude.{None, Option, Some}
use Rattle.store.specs.Entry.{entries, entry, kind}
use Rattle.declarations.specs.declared.Declared.{Declared}
use Rattle.declarations.specs.declared.Refused.TheVariants.{Undeclared as NotDeclared, Unfit as DoesNotFit}
use Rattle.declarations.specs.Declarations.{width_at, counter_declared, nothing}
use Rattle.declarations.proofs.Tenths.{tenth-none}
use Rattle.counters.specs.declared.Counters.{Counters}
use Rattle.counters.specs.Counters.{ten_to, counters, counter_set, counter_entered, counters_after}
use Rattle.counters.proofs.Sound.{set-facts}
use Rattle.values.proofs.Sound.{counter_at}
use Rattle.forms.specs.Form.{declared_of}
use Rattle.forms.proofs.Growing.{declared_of-empty}
use Rattle.grammar.specs.declared.Item.{Item}
use Rattle.grammar.specs.declared.Item.TheVariants.{Origin, Variable, Counter, Text, Bars, Box, Frame, Slant, Picture, Format}
use Rattle.grammar.specs.declared.SetCounter.{SetCounter}
use Rattle.grammar.specs.declared.Command.{Command}
use Rattle.grammar.specs.declared.Command.TheVariants.{Item as item, End, Page, Forms, Pictures, Values, Listing, Clock}
use Rattle.grammar.specs.declared.PageCommand.TheVariants.{Length, Width, Turn, White}
use Rattle.grammar.specs.declared.FormCommand.TheVariants.{Start, Retrieve, Erase as EraseForm}
use Rattle.grammar.specs.declared.PictureCommand.TheVariants.{Store, Erase as ErasePicture}
use Rattle.grammar.specs.declared.ValueCommand.TheVariants.{Variable as EnterVariable, Counter as EnterCounter, Clear, Print}
use Rattle.session.specs.declared.Session.{Session}
use Rattle.session.specs.Session.{blank}
use Rattle.session.specs.Active.{active_of, active_declared}
use Rattle.lent.specs.Lent.{World}
use Rattle.results.specs.World.{State, memory_of, inactive}
use Rattle.results.specs.Named.{place_of, named, erased_named, erased_every}
use Rattle.form_commands.specs.Forms.{erased_form}
use Rattle.item_commands.specs.Items.{based_by}
use Rattle.calls.specs.Does.{records, runs, placed}
use Rattle.store_sound.proofs.Facts.{sound-facts}
use Rattle.keeps_sound.specs.Good.{Good}
use Rattle.keeps_sound.proofs.Stored.{activity-facts, active-is, bytes-none}

-- ---- what a command leaves

-- what holds of counters and active form as they were, with every counter unset whatever is active then, and with the value entered that the command
-- gives, if it is `?C`, holds of what the command leaves
module _ (font : List ℕ) (w : World) (s : Session) (line more : List ℕ) (P : Counters → ℕ → Type 0) (same : P s.counters s.active)
    (unset : (active : ℕ) → P blank active) where
  abbrev Left : State → Type 0
  Left st = P st.session.counters st.session.active

  abbrev entered : ℕ → ℕ → Counters
  entered n v = counters (set s.counters.set n 1) (set s.counters.value n v)

  abbrev Entering : Command → Type 0
  Entering c = (e : SetCounter) → c ≡ Values (EnterCounter e) → P (entered e.n e.value) s.active

  picked-left : (b : Bool) (x y : State) → Left x → Left y → Left (cond b x y)
  picked-left true x y p q = p
  picked-left false x y p q = q

  based-left : (it : Item) → P (based_by s it).counters (based_by s it).active
  based-left (Origin o) = same
  based-left (Variable v) = same
  based-left (Counter c) = same
  based-left (Text t) = same
  based-left (Bars b) = same
  based-left (Box b) = same
  based-left (Frame f) = same
  based-left (Slant l) = same
  based-left (Picture p) = same
  based-left (Format f) = same

  entered-left :
      (d : Declared) (n v : ℕ) → P (entered n v) s.active → P (counters_after s.counters (counter_entered d s.counters n v)) s.active
  unfolding counter_entered
  entered-left d n v p = by (counter_declared d n) (ltb v (ten_to (width_at d n)))
    where
      by : (a b : Bool) →
          P (counters_after s.counters (cond a (cond b (Ok (entered n v)) (Err DoesNotFit)) (Err NotDeclared))) s.active
      by true true = p
      by true false = same
      by false b = same

  erased-left : (f : Option ℕ) → Left (erased_named s w f)
  erased-left (Some i) = same
  erased-left None = same

  run-left : (c : Command) → Entering c → Left (runs font w s line more c)
  run-left (item it) p = based-left it
  run-left End p = same
  run-left (Page (Length l)) p = same
  run-left (Page (Width m)) p = same
  run-left (Page (Turn t)) p = same
  run-left (Page White) p = unset _
  run-left (Forms (Start n)) p = same
  run-left (Forms (Retrieve n)) p = unset _
  run-left (Forms (EraseForm n)) p =
      let found = named w false line n in
      picked-left n.all (inactive (erased_every s w false)) (erased_form s w found) (unset _)
      (picked-left (eqb s.active (place_of found)) (inactive (erased_named s w found)) (erased_named s w found) (unset _) (erased-left found))
  run-left (Pictures (Store q)) p = same
  run-left (Pictures (ErasePicture n)) p = picked-left n.all (erased_every s w true) (erased_named s w (named w true line n)) same (erased-left (named w true line n))
  run-left (Values (EnterVariable v)) p = same
  run-left (Values (EnterCounter e)) p = entered-left (active_declared w s) e.n e.value (p e refl)
  run-left (Values Clear) p = same
  run-left (Values (Print k)) p = same
  run-left (Listing c) p = same
  run-left (Clock c) p = same

  -- a recorded line is not run
  record-left : (i : ℕ) (c : Command) → Left (records w s line i c)
  record-left i (item it) = same
  record-left i End = same
  record-left i (Page c) = same
  record-left i (Forms c) = same
  record-left i (Pictures c) = same
  record-left i (Values c) = same
  record-left i (Listing c) = same
  record-left i (Clock c) = same

  pub placed-left : (f : Option ℕ) (c : Command) → Entering c → P (placed font w s line more c f).session.counters (placed font w s line more c f).session.active
  placed-left (Some i) c p = record-left i c
  placed-left None c p = run-left c p

-- ---- a set counter

-- with no form nothing is declared
none-declared : (d : Declared) (n : ℕ) → d ≡ nothing → counter_declared d n ≡ false
unfolding nothing
none-declared d n e = ap (λ (x : Declared). counter_declared x n) e ∙ ap (λ (k : ℕ). ltb 0 (min k 9)) (tenth-none n)

-- "undeclared ones unset": where a counter is set, a form is active
pub set-active :
    (s : Session) (w : World) → Good s w → (n : ℕ) → n < 10 → counter_set s.counters n ≡ true →
    (s.active < entries w.directory) × (kind (entry w.directory s.active) ≡ 1)
set-active s w g n l h =
    let d : Declared = active_declared w s in
    let a = activity-facts s w.directory (active_of w s) w.values g.activity in
    ⊎_elim
    (λ (none : s.active ≡ 65535).
    let y = set-facts d s.counters n (counter_at d w.values s.counters a.fit n l) h in
    absurd (true≢false (sym y.0 ∙ none-declared d n (ap declared_of (bytes-none (memory_of w) s.active none) ∙ declared_of-empty))))
    (λ x. x)
    (active-is w.store w.links w.directory s.active (sound-facts w.store w.links w.directory g.store).lent a.form)
