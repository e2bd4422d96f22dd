-- A label call leads from a sound world to a sound one, and counts each label once.
-- Assumes nothing.
use mathlib.Core.Path.{◌≡◌, refl, ◌∙◌}
use mathlib.Core.Bool.{Bool, true, false, not, ◌||◌, cond}
use mathlib.Core.List.{List}
use mathlib.Core.Logic.{⊎_elim}
use Prim.Native.Nat.{ℕ, ◌+◌, ◌-◌}
use native.Mathlib.Omega.{arith}
use native.Mathlib.Decide.{dec_le}
use lib.ListN.{length}
use lib.Dec.{eqb}
use borrow.Author.Tests.{eqb-true, eqb-false, leb-true, le-leb}
use Rattle.counters.specs.declared.Counters.{Counters}
use Rattle.counter_steps.specs.Steps.{lasts, moved_all, SoundCounters}
use Rattle.counter_steps.proofs.Moves.{moved-flags, moved-values}
use Rattle.counter_steps.proofs.Job.{lasts-moved}
use Rattle.values.specs.Sound.{all_set}
use Rattle.values.proofs.Sound.{sound-counters, sound-moved, all-set-moved}
use Rattle.forms.specs.Form.{declared_of}
use Rattle.sound.specs.Sound.{numbers_ok, sound}
use Rattle.activity_check.specs.Activity.{owed_ok}
use Rattle.session.specs.declared.Session.{Session}
use Rattle.answers.specs.declared.Answer.{Answer}
use Rattle.answers.specs.declared.Answer.TheVariants.{Taken, Lengths}
use Rattle.answers.specs.Answers.{number_of, is_taken, answer_of}
use Rattle.session.specs.Session.{with_labels, counting}
use Rattle.lent.specs.Lent.{World, wrong_lent}
use Rattle.session.specs.Active.{active_of, active_declared}
use Rattle.results.proofs.Answers.{or-none}
use Rattle.calls.specs.Outcomes.{Drawn, drawn_by, labelled}
use Rattle.calls.specs.Table.{label_table}
use Rattle.calls.specs.Station.{label_page, label_session, labelled_by}
use Rattle.ground.proofs.Tests.{either}
use Rattle.keeps_sound.specs.Good.{Good}
use Rattle.keeps_sound.specs.Tens.{Tens}
use Rattle.keeps_sound.proofs.Layers.{good-sound, sound-good}
use Rattle.keeps_sound.proofs.Tables.{clear, taken_is}
use Rattle.keeps_sound.proofs.Stored.{activity-facts, facts-activity, owed_none, owed-facts, facts-owed}

-- ---- labels owed

-- "While labels are owed, sound now asks the same of each counter with k their number": a label keeps it, with one owed less
owed-moved :
    (n : ℕ) (directory bytes values : List ℕ) (c : Counters) → SoundCounters (declared_of bytes) c → owed_ok n directory bytes values c ≡ true →
    owed_ok (n - 1) directory bytes values (moved_all (declared_of bytes) c) ≡ true
unfolding owed_ok
owed-moved n directory bytes values c s e = elim (dec_le n 1) [
  | yes h ↦ let z : n - 1 ≡ 0 = omega arith in rw z
  | no h ↦
      let o = owed-facts n directory bytes values c e (λ z. omega arith) in
      facts-owed (n - 1) directory bytes values (moved_all (declared_of bytes) c) (record {
        quiet = o.quiet;
        set = all-set-moved (declared_of bytes) c s n (omega arith) o.lasts values ∙ o.set;
        lasts = lasts-moved (declared_of bytes) c s n (omega arith) o.lasts;
        pictures = o.pictures;
      })
]

-- "labels owed only when .. all declared values are set"
pub owed-set : (s : Session) (w : World) → Good s w → (s.owed ≡ 0 → ⊥) → all_set (active_declared w s) w.values s.counters ≡ true
owed-set s w g some =
    let a = activity-facts s w.directory (active_of w s) w.values g.activity in
    (owed-facts s.owed w.directory (active_of w s) w.values s.counters a.owed some).set

-- ---- the session of a label

module _ (s : Session) (w : World) (g : Good s w) (t : Tens s) where
  abbrev c' : Counters
  c' = moved_all (active_declared w s) s.counters

  abbrev one_less : Session
  one_less = with_labels (counting s c') (s.owed - 1) (s.drawn + 1)

  -- its ten counters are sound
  pub sound-ten : SoundCounters (active_declared w s) s.counters
  sound-ten =
      sound-counters (active_declared w s) w.values s.counters (activity-facts s w.directory (active_of w s) w.values g.activity).fit t.flags t.values

  -- with 65,535 drawn none is owed
  none-owed : (eqb s.owed 0 || eqb s.drawn 65535) ≡ true → s.owed ≡ 0
  none-owed e = ⊎_elim
      (λ (z : eqb s.owed 0 ≡ true). eqb-true s.owed 0 z)
      (λ (z : eqb s.owed 0 ≡ false).
      let full : s.drawn ≡ 65535 = eqb-true s.drawn 65535 (rw z at e) in
      let most = leb-true (s.owed + s.drawn) 65535 (activity-facts s w.directory (active_of w s) w.values g.activity).counts in
      omega (arith, full, most))
      (either (eqb s.owed 0))

  counted-good : (b : Bool) → (eqb s.owed 0 || eqb s.drawn 65535) ≡ b → Good (cond b (counting s c') one_less) w
  unfolding numbers_ok
  counted-good true e =
      let a = activity-facts s w.directory (active_of w s) w.values g.activity in
      record {
        lengths = g.lengths;
        numbers = g.numbers;
        times = g.times;
        background = g.background;
        store = g.store;
        free = g.free;
        contents = g.contents;
        activity = facts-activity (counting s c') w.directory (active_of w s) w.values (record {
          form = a.form;
          fit = sound-moved (active_declared w s) w.values s.counters a.fit sound-ten;
          counts = a.counts;
          owed = owed_none (counting s c') w.directory (active_of w s) w.values (none-owed e);
        });
      }
  counted-good false e =
      let a = activity-facts s w.directory (active_of w s) w.values g.activity in
      let z = (or-none (eqb s.owed 0) (eqb s.drawn 65535) e).0 in
      let some : s.owed ≡ 0 → ⊥ = eqb-false _ _ z in
      record {
        lengths = g.lengths;
        numbers = g.numbers;
        times = g.times;
        background = g.background;
        store = g.store;
        free = g.free;
        contents = g.contents;
        activity = facts-activity one_less w.directory (active_of w s) w.values (record {
          form = a.form;
          fit = sound-moved (active_declared w s) w.values s.counters a.fit sound-ten;
          counts = le-leb (s.owed - 1 + (s.drawn + 1)) 65535 (omega (arith, leb-true (s.owed + s.drawn) 65535 a.counts, some));
          owed = owed-moved s.owed w.directory (active_of w s) w.values s.counters sound-ten a.owed;
        });
      }

  counted-tens : (b : Bool) → Tens (cond b (counting s c') one_less)
  counted-tens true = record { flags = moved-flags (active_declared w s) s.counters ∙ t.flags; values = moved-values (active_declared w s) s.counters ∙ t.values }
  counted-tens false = record { flags = moved-flags (active_declared w s) s.counters ∙ t.flags; values = moved-values (active_declared w s) s.counters ∙ t.values }

  counted_same : (b : Bool) → (eqb s.owed 0 || eqb s.drawn 65535) ≡ b → (cond b (counting s c') one_less).owed + (cond b (counting s c') one_less).drawn ≡ s.owed + s.drawn
  counted_same true e = refl
  counted_same false e =
      let some : s.owed ≡ 0 → ⊥ = eqb-false _ _ (or-none (eqb s.owed 0) (eqb s.drawn 65535) e).0 in
      omega (arith, some)

  pub label-session-good : Good (label_session s w) w
  unfolding label_session
  label-session-good = counted-good (eqb s.owed 0 || eqb s.drawn 65535) refl

  pub label-session-tens : Tens (label_session s w)
  unfolding label_session
  label-session-tens = counted-tens (eqb s.owed 0 || eqb s.drawn 65535)

  -- owed and drawn together stay
  pub label-counts : (label_session s w).owed + (label_session s w).drawn ≡ s.owed + s.drawn
  unfolding label_session
  label-counts = counted_same (eqb s.owed 0 || eqb s.drawn 65535) refl

  -- ---- the call, taken or refused

  settled-good : (b : Bool) (a : Answer) (p q : List ℕ) → Good (cond b (drawn_by (labelled Taken (label_session s w)) p) (drawn_by (labelled a s) q)).outcome.session w
  settled-good true a p q = label-session-good
  settled-good false a p q = g

  settled-tens : (b : Bool) (a : Answer) (p q : List ℕ) → Tens (cond b (drawn_by (labelled Taken (label_session s w)) p) (drawn_by (labelled a s) q)).outcome.session
  settled-tens true a p q = label-session-tens
  settled-tens false a p q = t

  pub label-good : (font page : List ℕ) → Good (labelled_by s font w page).outcome.session w
  unfolding labelled_by
  label-good font page =
      settled-good (is_taken (answer_of (label_table s font w (length page)))) (answer_of (label_table s font w (length page))) (label_page font s w) page

  pub label-tens : (font page : List ℕ) → Tens (labelled_by s font w page).outcome.session
  unfolding labelled_by
  label-tens font page =
      settled-tens (is_taken (answer_of (label_table s font w (length page)))) (answer_of (label_table s font w (length page))) (label_page font s w) page

-- with lent lengths that are wrong nothing is taken, so sound alone is enough
label-lengths : (s : Session) (font : List ℕ) (w : World) (page : ℕ) → answer_of (label_table s font w page) ≡ Taken → wrong_lent w ≡ false
unfolding label_table is_taken number_of
label-lengths s font w page a = (or-none (wrong_lent w) (not (eqb page (length w.background))) (clear Lengths _ _ refl a).0).0

settled-sound :
    (s : Session) (w : World) (b : Bool) (x y : Drawn) → (b ≡ true → sound x.outcome.session w ≡ true) → sound y.outcome.session w ≡ true →
    sound (cond b x y).outcome.session w ≡ true
settled-sound s w true x y h k = h refl
settled-sound s w false x y h k = k

pub label-sound : (s : Session) (font : List ℕ) (w : World) (page : List ℕ) → sound s w ≡ true → Tens s → sound (labelled_by s font w page).outcome.session w ≡ true
unfolding labelled_by
label-sound s font w page h t =
    let a = answer_of (label_table s font w (length page)) in
    settled-sound s w (is_taken a) _ _
    (λ e. good-sound _ _ (label-session-good s w (sound-good s w (label-lengths s font w (length page) (taken_is a e)) h) t)) h
