-- The commands over values, the active form and the labels owed lead from a sound world to a sound one: FR, ?V, ?C, VC, P and N; and those that only
-- list: FI, GI and FP.
-- Assumes nothing.
use Rattle.std.proofs.Common.{Ok, Err}
use mathlib.Core.Path.{◌≡◌, refl, sym, ap, ◌∙◌}
use mathlib.Core.Bool.{Bool, true, false, not, ◌||◌, cond, true≢false}
use mathlib.Core.List.{List}
use Prim.Native.Nat.{ℕ, ◌+◌, ◌*◌, ◌≤◌, ◌<◌}
use native.Mathlib.Omega.{arith}
use lib.ListN.{length, length-replicate}
use lib.Dec.{eqb}
use lib.Seq.{sets, length-sets}
use borrow.Author.Tests.{le-leb, not-false}
use Rattle.cells.specs.Cell.{zeros}
use Rattle.cells.proofs.Cells.{length-zeros}
use Rattle.cells.proofs.Scan.{lowest-passes, lowest-before}
use Rattle.store.specs.Entry.{entries, entry, kind, of_kind}
use Rattle.finding.specs.Find.{is_recording, recorded, same_name, titled, titled_at}
use Rattle.finding.proofs.Finding.{at-says, nothing-says}
use Rattle.declarations.specs.declared.Declared.{Declared}
use Rattle.declarations.specs.declared.Refused.TheVariants.{Undeclared as NotDeclared, Unfit as DoesNotFit}
use Rattle.declarations.specs.Declarations.{side_at, length_at, variable_declared}
use Rattle.counters.specs.Counters.{none_set, counter_entered, counters_after}
use Rattle.counter_steps.specs.Steps.{lasts}
use Rattle.padding.specs.Padding.{enters, padded}
use Rattle.stored_values.specs.Stored.{field, stored, variable_entered, unset}
use Rattle.values.specs.Sound.{values_sound, all_set}
use Rattle.values.proofs.Sound.{sound-unset, sound_none, sound-entered, sound-counted}
use Rattle.grammar.specs.declared.Named.{Named}
use Rattle.grammar.specs.declared.SetVariable.{SetVariable as VariableOf}
use Rattle.grammar.specs.declared.SetCounter.{SetCounter as CounterOf}
use Rattle.grammar.specs.declared.Print.{Print as PrintOf}
use Rattle.grammar.specs.declared.Command.TheVariants.{Page, Forms, Values, Listing}
use Rattle.grammar.specs.declared.PageCommand.TheVariants.{White}
use Rattle.grammar.specs.declared.FormCommand.TheVariants.{Retrieve}
use Rattle.grammar.specs.declared.ValueCommand.TheVariants.{Variable as EnterVariable, Counter as EnterCounter, Clear, Print}
use Rattle.grammar.specs.declared.ListingCommand.TheVariants.{Forms as ListForms, Pictures as ListPictures, Form as ListForm}
use Rattle.read.specs.Commands.{read_of}
use Rattle.parts.specs.Names.{packed_of}
use Rattle.forms.specs.Form.{pictures_stored}
use Rattle.sound.specs.Sound.{times_ok, numbers_ok}
use Rattle.activity_check.specs.Activity.{active_ok, owed_ok}
use Rattle.session.specs.declared.Session.{Session}
use Rattle.answers.specs.declared.Answer.TheVariants.{Taken, Misplaced, Missing, Unset, RunsOut}
use Rattle.answers.specs.Answers.{number_of, is_taken, answer_of}
use Rattle.session.specs.Session.{blank, activated, counting, owing, sixteen_bits}
use Rattle.lent.specs.Lent.{World, rows_of}
use Rattle.session.specs.Active.{active_of, active_declared}
use Rattle.results.specs.World.{memory_of, with_values}
use Rattle.results.specs.Named.{place_of, named}
use Rattle.results.proofs.Lengths.{directory-long}
use Rattle.page_commands.specs.Page.{whitened}
use Rattle.value_commands.specs.Values.{text_of}
use Rattle.calls.specs.Rows.{run_rows}
use Rattle.calls.specs.Does.{runs}
use Rattle.ground.proofs.Tests.{or-second}
use Rattle.keeps_sound.specs.Good.{Good}
use Rattle.keeps_sound.specs.Tens.{Tens}
use Rattle.keeps_sound.proofs.Layers.{first_of}
use Rattle.keeps_sound.proofs.Facts.{lent-facts, numbers-facts}
use Rattle.keeps_sound.proofs.Stored.{Active, activity-facts, facts-activity, owed_none, facts-owed, good-ended}
use Rattle.keeps_sound.proofs.Tables.{clear}
use Rattle.keeps_sound.proofs.Fresh.{white-zeros}
use Rattle.keeps_sound.proofs.Numbers.{background-good}
use Rattle.std.specs.Prelude.{None, Option, Some, is_some}

-- ---- lengths, and values that are unset

length-unset : (values : List ℕ) → length (unset values) ≡ length values
unfolding unset
length-unset values = length-replicate (length values) 0

length-entered : (d : Declared) (n : ℕ) (text values : List ℕ) → length (variable_entered d n text values).values ≡ length values
unfolding variable_entered
length-entered d n text values = go (variable_declared d n) (enters (side_at d n) (length_at d n) text)
  where
    go : (a b : Bool)
        → length (cond a (cond b (stored (Ok tt) (sets values (34 * n) (field (padded (side_at d n) (length_at d n) text)))) (stored (Err DoesNotFit) values)) (stored (Err NotDeclared) values)).values ≡ length values
    go true true = length-sets values (34 * n) (field (padded (side_at d n) (length_at d n) text))
    go true false = refl
    go false b = refl

unset-blank : (d : Declared) (values : List ℕ) → values_sound d (unset values) blank ≡ true
unfolding none_set
unset-blank d values = sound_none d values

-- ---- the form that FR finds is a stored one: nothing is recorded

or-other : (a b : Bool) → (a || b) ≡ true → b ≡ false → a ≡ true
or-other true b e z = refl
or-other false b e z = absurd (true≢false (sym e ∙ z))

module _ (directory name : List ℕ) (long : length directory ≤ 8192) (quiet : recorded directory ≡ None) where
  not-recording : (i : ℕ) → i < entries directory → is_recording directory i ≡ false
  not-recording i h =
      lowest-before (is_recording directory) (entries directory) i (omega (arith, nothing-says (is_recording directory) (entries directory) quiet))

  titled-form : (i : ℕ) → titled directory false name i ≡ true → of_kind false (kind (entry directory i)) ≡ true
  unfolding titled
  titled-form i e = first_of (of_kind false (kind (entry directory i))) (same_name (entry directory i) name) e

  found-active : (f : Option ℕ) → titled_at directory false name ≡ f → active_ok directory (place_of f) ≡ true
  unfolding active_ok
  found-active (Some i) e =
      let a = at-says (titled directory false name) (entries directory) i e in
      let t : titled directory false name i ≡ true =
      ap (titled directory false name) (sym a.0) ∙ lowest-passes (titled directory false name) (entries directory) (omega (arith, a.0, a.1)) in
      let small : sixteen_bits i ≡ i = omega (arith, a.1, long) in
      rw small
      (or-second (eqb i 65535) _ (or-other (eqb (kind (entry directory i)) 1) (eqb (kind (entry directory i)) 3) (titled-form i t) (not-recording i a.1)))
  found-active None e = refl

  pub found-form : active_ok directory (place_of (titled_at directory false name)) ≡ true
  found-form = found-active (titled_at directory false name) refl

-- ---- the commands

module _ (font : List ℕ) (w : World) (s : Session) (line more : List ℕ) (g : Good s w) where
  -- another session and other values
  values-good : (s' : Session) (v : List ℕ) → length v ≡ length w.values → numbers_ok (rows_of w) s' ≡ true
      → times_ok s'.clock s'.formats ≡ true → s'.width ≡ s.width → s'.length ≡ s.length → s'.free ≡ s.free → Active s' w.directory (active_of w s') v → Good s' (with_values w v)
  values-good s' v e n t p q f a = record {
    lengths = rw e g.lengths;
    numbers = n;
    times = t;
    background = rw (p, q) g.background;
    store = g.store;
    free = f ∙ g.free;
    contents = g.contents;
    activity = facts-activity s' w.directory (active_of w s') v a;
  }

  was : Active s w.directory (active_of w s) w.values
  was = activity-facts s w.directory (active_of w s) w.values g.activity

  -- FR: "FR unsets all values"
  pub keeps-retrieve : (n : Named) → recorded w.directory ≡ None → s.owed ≡ 0
      → Good (runs font w s line more (Forms (Retrieve n))).session (runs font w s line more (Forms (Retrieve n))).world
  unfolding numbers_ok
  keeps-retrieve n quiet none =
      let s' = activated s (place_of (named w false line n)) in
      values-good s' (unset w.values) (length-unset w.values) g.numbers g.times refl refl refl (record {
        form = found-form w.directory (packed_of line n.at n.length) (directory-long w g.lengths) quiet;
        fit = unset-blank (active_declared w s') w.values;
        counts = was.counts;
        owed = owed_none s' w.directory (active_of w s') (unset w.values) none;
      })

  -- ?V
  pub keeps-variable : (v : VariableOf) → s.owed ≡ 0
      → Good (runs font w s line more (Values (EnterVariable v))).session (runs font w s line more (Values (EnterVariable v))).world
  keeps-variable v none =
      let d = active_declared w s in
      let text = text_of line v.at v.length in
      values-good s _ (length-entered d v.n text w.values) g.numbers g.times refl refl refl (record {
        form = was.form;
        fit = sound-entered d w.values s.counters v.n text was.fit (lent-facts w g.lengths).values;
        counts = was.counts;
        owed = owed_none s w.directory (active_of w s) _ none;
      })

  -- ?C
  pub keeps-counter : (c : CounterOf) → s.owed ≡ 0 → Tens s
      → Good (runs font w s line more (Values (EnterCounter c))).session (runs font w s line more (Values (EnterCounter c))).world
  unfolding numbers_ok
  keeps-counter c none t =
      let d = active_declared w s in
      let c' = counters_after s.counters (counter_entered d s.counters c.n c.value) in
      values-good (counting s c') w.values refl g.numbers g.times refl refl refl (record {
        form = was.form;
        fit = sound-counted d w.values s.counters was.fit t.values c.n c.value t.flags;
        counts = was.counts;
        owed = owed_none (counting s c') w.directory (active_of w s) w.values none;
      })

  -- VC
  pub keeps-clear : s.owed ≡ 0 → Good (runs font w s line more (Values Clear)).session (runs font w s line more (Values Clear)).world
  keeps-clear none =
      values-good s (unset w.values) (length-unset w.values) g.numbers g.times refl refl refl (record {
        form = was.form;
        fit = sound-unset (active_declared w s) w.values s.counters was.fit;
        counts = was.counts;
        owed = owed_none s w.directory (active_of w s) (unset w.values) none;
      })

  -- P: its pictures are stored [11], all declared values set [18], and no counter runs out [22]
  print-owed : (room : ℕ) (p : PrintOf) → recorded w.directory ≡ None → answer_of (run_rows w s line more room (Values (Print p))) ≡ Taken
      → owed_ok (sixteen_bits p.k) w.directory (active_of w s) w.values s.counters ≡ true
  unfolding is_taken number_of
  print-owed room p quiet e =
      let a = clear Missing (not (pictures_stored w.directory (active_of w s))) _ refl (clear Misplaced _ _ refl e).1 in
      let b = clear Unset (not (all_set (active_declared w s) w.values s.counters)) _ refl a.1 in
      let l = clear RunsOut (not (lasts (active_declared w s) s.counters (sixteen_bits p.k))) _ refl b.1 in
      facts-owed (sixteen_bits p.k) w.directory (active_of w s) w.values s.counters (record {
        quiet = ap (λ (f : Option ℕ). not (is_some f)) quiet;
        set = not-false _ b.0;
        lasts = not-false _ l.0;
        pictures = not-false _ a.0;
      })

  pub keeps-print : (room : ℕ) (p : PrintOf) → recorded w.directory ≡ None → read_of (rows_of w) line ≡ Ok (Values (Print p))
      → answer_of (run_rows w s line more room (Values (Print p))) ≡ Taken
      → Good (runs font w s line more (Values (Print p))).session (runs font w s line more (Values (Print p))).world
  unfolding numbers_ok
  keeps-print room p quiet reads e =
      values-good (owing s (sixteen_bits p.k)) w.values refl g.numbers g.times refl refl refl (record {
        form = was.form;
        fit = was.fit;
        counts = le-leb (sixteen_bits p.k + 0) 65535 (omega arith);
        owed = print-owed room p quiet e;
      })

  -- FI, GI and FP change nothing
  pub keeps-listing : Good (runs font w s line more (Listing ListForms)).session (runs font w s line more (Listing ListForms)).world
  keeps-listing = g

  pub keeps-pictures : Good (runs font w s line more (Listing ListPictures)).session (runs font w s line more (Listing ListPictures)).world
  keeps-pictures = g

  pub keeps-printed : (n : Named) → Good (runs font w s line more (Listing (ListForm n))).session (runs font w s line more (Listing (ListForm n))).world
  keeps-printed n = g

-- N: "Both whiten the background, as does `N`", and activity ends
pub keeps-white :
    (font : List ℕ) (w : World) (s : Session) (line more : List ℕ) → Good s w → s.owed ≡ 0 →
    Good (runs font w s line more (Page White)).session (runs font w s line more (Page White)).world
keeps-white font w s line more g none =
    let white =
    background-good s s w (zeros (length w.background)) g g.times refl (length-zeros (length w.background)) (numbers-facts (rows_of w) s g.numbers)
    (white-zeros s.width s.length (length w.background)) g.activity in
    good-ended s (whitened w) white none s.free (memory_of w) g.store g.free refl g.contents
