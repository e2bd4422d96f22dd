-- What labels show of a counter: its next number on each label of a job, and no number twice, from one job to the next.
-- Assumes nothing.
use mathlib.Core.Path.{◌≡◌, refl, sym, ap, ◌∙◌, subst}
use mathlib.Core.Bool.{Bool, true, false, not, ◌||◌, cond, true≢false}
use mathlib.Core.List.{List, [], ◌∷◌}
use mathlib.Core.Logic.{◌⊎◌, inl, inr, ⊎_elim}
use Prim.Native.Nat.{ℕ, ◌+◌, ◌-◌, ◌*◌, ◌<◌}
use native.Mathlib.Omega.{arith}
use lib.Dec.{eqb}
use borrow.Author.Tests.{ltb-true}
use Rattle.declarations.specs.declared.Declared.{Declared}
use Rattle.declarations.specs.Declarations.{tenth, width_at, minus_at, step_at, counter_declared, variable_declared}
use Rattle.declarations.proofs.Tenths.{tenth-below}
use Rattle.counters.specs.declared.Counters.{Counters}
use Rattle.counters.specs.Counters.{ten_to, digits, counter_set, counter_value}
use Rattle.counter_steps.specs.Steps.{onward, moved_all, SoundCounters, beyond}
use Rattle.counter_steps.proofs.Moves.{set_below, unset-stays}
use Rattle.counter_steps.proofs.Times.{beyond-digits, moved-ahead, lasts-value, digits-differ}
use Rattle.stored_values.specs.Stored.{field_at, field_set}
use Rattle.values.specs.Sound.{all_set}
use Rattle.values.proofs.Sound.{set-at}
use Rattle.forms.specs.Form.{declared_of}
use Rattle.keeps_sound.specs.Sound.{active_bytes}
use Rattle.session.specs.declared.Session.{Session}
use Rattle.answers.specs.declared.Answer.TheVariants.{Taken}
use Rattle.answers.specs.Answers.{is_taken}
use Rattle.lent.specs.Lent.{World}
use Rattle.session.specs.Session.{with_labels, counting}
use Rattle.session.specs.Active.{active_of, active_declared}
use Rattle.results.specs.World.{State, state}
use Rattle.keeps_sound.specs.Outcomes.{Drawn}
use Rattle.keeps_sound.specs.Station.{label_session, labelled_by}
use Rattle.keeps_sound.proofs.Promises.{label-refusal-keeps}
use Rattle.keeps_sound.specs.Good.{Good}
use Rattle.keeps_sound.specs.Calls.{Call, command, label, pass, called, through}
use Rattle.keeps_sound.proofs.Passing.{passed-keeps}
use Rattle.keeps_sound.proofs.Tables.{taken_is}
use Rattle.keeps_sound.proofs.Labels.{sound-ten, owed-set}
use Rattle.keeps_sound.proofs.Always.{GoodState, called-good, through-good}
use Rattle.ground.proofs.Tests.{and_right, either}
use Rattle.demands.specs.Calls.{Avoids, Without}
use Rattle.demands.specs.Labels.{Ready, label_at, labelled_times}
use Rattle.demands.specs.Shown.{shows, Enters, SameCounter}
use Rattle.demands.proofs.Refusal.{label-taken-none}
use Rattle.demands.proofs.Taking.{label-accepted, label-owed}
use Rattle.demands.proofs.Stays.{label-active}
use Rattle.demands.proofs.Untouched.{command-untouched}

-- ---- counters that are set

-- "all declared values are set": so is a counter that is declared
declared-set : (d : Declared) (values : List ℕ) (c : Counters) → all_set d values c ≡ true → (n : ℕ) → counter_declared d n ≡ true → counter_set c n ≡ true
declared-set d values c h n p =
    let l : n < 10 = tenth-below d.widths n (omega (arith, ltb-true 0 (width_at d n) p)) in
    rw p at (and_right (not (variable_declared d n) || field_set (field_at values n)) (not (counter_declared d n) || counter_set c n) (set-at d values c h n l))

-- and so it is on a label that is drawn
label-set :
    (s : Session) (w : World) → Good s w → (font page : List ℕ) → (labelled_by s font w page).outcome.answer ≡ Taken → (n : ℕ) →
    counter_declared (active_declared w s) n ≡ true → counter_set s.counters n ≡ true
label-set s w g font page t = declared-set (active_declared w s) w.values s.counters (owed-set s w g (label-owed s font w page t))

-- ---- within a job

-- of a counter n that the active form declares
module _
    (s : Session) (w : World) (g : GoodState (state s w)) (k : ℕ) (r : Ready s w k) (n : ℕ) (declared : counter_declared (active_declared w s) n ≡ true) where
  abbrev d : Declared
  d = active_declared w s

  -- label i of k shows the first number and i steps
  pub job-number :
      (i : ℕ) → i < k → counter_value (labelled_times (active_of w s) s k i).counters n ≡ onward (minus_at d n) (i * step_at d n) (counter_value s.counters n)
  job-number i h =
      lasts-value d s.counters (sound-ten s w g.good g.tens) n declared k r.lasts (declared-set d w.values s.counters r.set n declared) i h

  -- and two labels of it show different digits
  pub job-differs :
      0 < step_at d n → (i j : ℕ) → i < k → j < k → (i ≡ j → ⊥) →
      shows (state (labelled_times (active_of w s) s k i) w) n ≡ shows (state (labelled_times (active_of w s) s k j) w) n → ⊥
  job-differs step i j hi hj other =
      digits-differ d s.counters (sound-ten s w g.good g.tens) n declared step k r.lasts (declared-set d w.values s.counters r.set n declared) i j hi hj
      other

-- ---- from one job to the next

-- since a label that showed v of counter n, under declarations d: the counter is unset, or stands beyond v under the same declarations
abbrev Ahead : Declared → ℕ → ℕ → State → Type 0
Ahead d n v st =
    (counter_set st.session.counters n ≡ false)
    ⊎ ((active_declared st.world st.session ≡ d) × (beyond (minus_at d n) v (counter_value st.session.counters n) ≡ true))

-- a label that is drawn moves the counters
label-moves :
    (s : Session) (font : List ℕ) (w : World) (page : List ℕ) → (labelled_by s font w page).outcome.answer ≡ Taken →
    (labelled_by s font w page).outcome.session.counters ≡ moved_all (active_declared w s) s.counters
unfolding label_session
label-moves s font w page t =
    ap (λ (d : Drawn). d.outcome.session.counters) (label-accepted s font w page (label-taken-none s font w page t)) ∙ counted (eqb s.owed 0 || eqb s.drawn 65535)
  where
    c' : Counters
    c' = moved_all (active_declared w s) s.counters

    counted : (b : Bool) → (cond b (counting s c') (with_labels (counting s c') (s.owed - 1) (s.drawn + 1))).counters ≡ c'
    counted true = refl
    counted false = refl

module _ (d : Declared) (n v : ℕ) (l : n < 10) (step : 0 < step_at d n) where
  -- a label that is drawn, of a counter that stands at v or beyond it
  label-ahead :
      (st : State) → GoodState st → (font page : List ℕ) → (label_at st font page).outcome.answer ≡ Taken → active_declared st.world st.session ≡ d →
      (v ≡ counter_value st.session.counters n) ⊎ (beyond (minus_at d n) v (counter_value st.session.counters n) ≡ true) →
      Ahead d n v (called st (label font page))
  label-ahead st g font page t e was =
      let s = st.session in
      let w = st.world in
      let m = label-moves s font w page t ∙ ap (λ (x : Declared). moved_all x s.counters) e in
      let ten : SoundCounters d s.counters = subst (λ (x : Declared). SoundCounters x s.counters) e (sound-ten s w g.good g.tens) in
      ⊎_elim
      (λ (x : counter_set (moved_all d s.counters) n ≡ false). inl (ap (λ (c : Counters). counter_set c n) m ∙ x))
      (λ (x : beyond (minus_at d n) v (counter_value (moved_all d s.counters) n) ≡ true).
      inr (
        ap (λ (a : ℕ). declared_of (active_bytes w.store w.links w.directory a)) (label-active s font w page) ∙ e,
        ap (λ (c : Counters). beyond (minus_at d n) v (counter_value c n)) m ∙ x,
      ))
      (moved-ahead d s.counters ten n l step v was)

  same_ahead : (st st' : State) → SameCounter n st st' → Ahead d n v st → Ahead d n v st'
  same_ahead st st' x (inl y) = inl (ap (λ (k : ℕ). eqb k 1) x.0 ∙ y)
  same_ahead st st' x (inr y) = inr (ap declared_of x.2 ∙ y.0, ap (beyond (minus_at d n) v) x.1 ∙ y.1)

  -- any call, unless it enters a value for the counter
  call-ahead : (c : Call) (st : State) → GoodState st → Avoids (Enters n) c st → Ahead d n v st → Ahead d n v (called st c)
  call-ahead (command font output input) st g a was = ⊎_elim
      inl
      (λ (x : SameCounter n st (called st (command font output input))). same_ahead st (called st (command font output input)) x was)
      (command-untouched st g font output input n l a)
  call-ahead (label font page) st g a was = ⊎_elim
      (λ (t : is_taken (label_at st font page).outcome.answer ≡ true). drawn (taken_is _ t) was)
      (λ (t : is_taken (label_at st font page).outcome.answer ≡ false).
      subst (λ (x : Drawn). Ahead d n v (state x.outcome.session st.world)) (sym (label-refusal-keeps st.session font st.world page t)) was)
      (either (is_taken (label_at st font page).outcome.answer))
    where
      drawn : (label_at st font page).outcome.answer ≡ Taken → Ahead d n v st → Ahead d n v (called st (label font page))
      drawn t (inl x) =
          inl
          (ap (λ (c : Counters). counter_set c n) (label-moves st.session font st.world page t)
          ∙ unset-stays (active_declared st.world st.session) st.session.counters (sound-ten st.session st.world g.good g.tens) n l x)
      drawn t (inr x) = label-ahead st g font page t x.0 (inr x.1)
  call-ahead (pass seconds) st g a was = same_ahead st (called st (pass seconds)) (
    passed-keeps (λ x. tenth x.counters.set n) st.session seconds (λ c. refl),
    passed-keeps (λ x. counter_value x.counters n) st.session seconds (λ c. refl),
    passed-keeps (active_of st.world) st.session seconds (λ c. refl),
  ) was

  calls-ahead : (cs : List Call) (st : State) → GoodState st → Without (Enters n) cs st → Ahead d n v st → Ahead d n v (through st cs)
  calls-ahead [] st g a was = was
  calls-ahead (c ∷ cs) st g a was = calls-ahead cs (called st c) (called-good st c g) a.1 (call-ahead c st g a.0 was)

-- no label shows digits of a counter that an earlier one showed, unless a value was entered for the counter between them
pub no-number-twice :
    (st : State) → GoodState st → (font page : List ℕ) → (label_at st font page).outcome.answer ≡ Taken → (n : ℕ) →
    0 < step_at (active_declared st.world st.session) n → (cs : List Call) → Without (Enters n) cs (called st (label font page)) →
    (font' page' : List ℕ) → (label_at (through (called st (label font page)) cs) font' page').outcome.answer ≡ Taken →
    counter_declared (active_declared (through (called st (label font page)) cs).world (through (called st (label font page)) cs).session) n ≡ true →
    shows st n ≡ shows (through (called st (label font page)) cs) n → ⊥
no-number-twice st g font page t n step cs quiet font' page' t' declared same =
    let d = active_declared st.world st.session in
    let v = counter_value st.session.counters n in
    let st₁ = called st (label font page) in
    let st' = through st₁ cs in
    let d' = active_declared st'.world st'.session in
    let g₁ = called-good st (label font page) g in
    let g' = through-good st₁ cs g₁ in
    let l : n < 10 = tenth-below d'.widths n (omega (arith, ltb-true 0 (width_at d' n) declared)) in
    let set' = label-set st'.session st'.world g'.good font' page' t' n declared in
    ⊎_elim
    (λ (x : counter_set st'.session.counters n ≡ false). true≢false (sym set' ∙ x))
    (λ (x : (d' ≡ d) × (beyond (minus_at d n) v (counter_value st'.session.counters n) ≡ true)).
    let was = label-set st.session st.world g.good font page t n (subst (λ (y : Declared). counter_declared y n ≡ true) x.0 declared) in
    let below = set_below d st.session.counters (sound-ten st.session st.world g.good g.tens) n l was in
    let below' = set_below d' st'.session.counters (sound-ten st'.session st'.world g'.good g'.tens) n l set' in
    beyond-digits d n v (counter_value st'.session.counters n) below (subst (λ (y : Declared). counter_value st'.session.counters n < ten_to (width_at y n)) x.0 below') x.1
    (same ∙ ap (λ (y : Declared). digits (width_at y n) (counter_value st'.session.counters n)) x.0))
    (calls-ahead d n v l step cs st₁ g₁ quiet (label-ahead d n v l step st g font page t refl (inl refl)))
