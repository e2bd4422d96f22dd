-- A command that enters no value for a counter unsets it, or leaves its value and the active form's bytes as they were.
-- Assumes nothing.
use mathlib.Core.Path.{◌≡◌, refl, sym, ap, ◌∙◌, subst}
use mathlib.Core.Bool.{true, false}
use mathlib.Core.List.{List}
use mathlib.Core.Logic.{◌⊎◌, inl, inr, ⊎_elim}
use Prim.Native.Nat.{ℕ, ◌<◌}
use native.Mathlib.Omega.{arith}
use lib.Dec.{eqb}
use Rattle.declarations.specs.Declarations.{tenth}
use Rattle.declarations.proofs.Tenths.{tenth-other, tenth-none}
use Rattle.counters.specs.declared.Counters.{Counters}
use Rattle.counters.specs.Counters.{counter_set, counter_value}
use Rattle.grammar.specs.declared.Command.{Command}
use Rattle.store.specs.Entry.{entries, entry, kind, name}
use Rattle.finding.specs.Find.{recorded, titled_at}
use Rattle.contents.specs.Content.{content_of}
use Rattle.store_sound.specs.Shelf.{held}
use Rattle.store_sound.proofs.Listing.{shelf-at}
use Rattle.session.specs.declared.Session.{Session}
use Rattle.session.specs.Active.{active_of}
use Rattle.answers.specs.declared.Answer.TheVariants.{Taken}
use Rattle.lent.specs.Lent.{World}
use Rattle.results.specs.World.{State}
use Rattle.results.proofs.Lengths.{directory-long}
use Rattle.keeps_sound.specs.Outcomes.{After}
use Rattle.keeps_sound.specs.Station.{commanded}
use Rattle.unread.specs.Front.{line_of, more_of}
use Rattle.keeps_sound.specs.Calls.{command, called}
use Rattle.keeps_sound.proofs.Counters.{placed-left, set-active}
use Rattle.keeps_sound.proofs.Always.{GoodState, called-good}
use Rattle.ground.proofs.Tests.{either}
use Rattle.demands.specs.Calls.{Says, state_of, Avoids}
use Rattle.demands.specs.Loaded.{Erases}
use Rattle.demands.specs.Shown.{Enters, UnsetOrSame}
use Rattle.demands.proofs.Said.{by_said}
use Rattle.demands.proofs.Taking.{command-done}
use Rattle.demands.proofs.Stays.{held_found, said-stays, Standing, standing-active}
use Rattle.demands.proofs.Ended.{erased-active-ends}

-- ---- the active form stands in its entry

module _ (st : State) where
  abbrev there : List ℕ
  there = entry st.world.directory st.session.active

  abbrev title : List ℕ
  title = name there

  abbrev bytes : List ℕ
  bytes = content_of st.world.store st.world.links there

  active-stands : GoodState st → (st.session.active < entries st.world.directory) × (kind there ≡ 1) → Standing st.session.active title bytes st
  active-stands g a = record {
    good = g;
    here = shelf-at st.world.store st.world.links st.world.directory st.session.active a.0 ∙ ap (λ (k : ℕ). held k title bytes) a.1;
  }

-- ---- a command

module _ (st : State) (g : GoodState st) (font output input : List ℕ) (n : ℕ) (l : n < 10) where
  abbrev s : Session
  s = st.session

  abbrev w : World
  w = st.world

  abbrev then : State
  then = called st (command font output input)

  -- counter n and the number of the active form are as they were
  abbrev Same : Counters → ℕ → Type 0
  Same c active = (tenth c.set n ≡ tenth s.counters.set n) × (counter_value c n ≡ counter_value s.counters n) × (active ≡ s.active)

  abbrev UnsetOrStands : Counters → ℕ → Type 0
  UnsetOrStands c active = (counter_set c n ≡ false) ⊎ Same c active

  module _ (c : Command) (r : Says w input c) (t : (commanded s font w output input).outcome.answer ≡ Taken) where
    said-left : (Enters n w input → ⊥) → UnsetOrStands then.session.counters then.session.active
    said-left spared =
        subst (λ (a : After). UnsetOrStands (state_of a).session.counters (state_of a).session.active) (sym (command-done s font w output input c r t).does)
        (placed-left font w s (line_of input r.line) (more_of input r.line r.whole) UnsetOrStands (inr (refl, refl, refl))
        (λ active. inl (ap (λ (k : ℕ). eqb k 1) (tenth-none n))) (recorded w.directory) c
        (λ e q.
        let other : (n ≡ e.n → ⊥) =
        λ z. spared (subst (λ (k : ℕ). Enters k w input) (sym z) (record { value = e.value; says = subst (Says w input) q r })) in
        inr (tenth-other s.counters.set e.n n 1 other, tenth-other s.counters.value e.n n e.value other, refl)))

    module _ (set : counter_set s.counters n ≡ true) (same : then.session.active ≡ s.active) where
      stands : Standing s.active (title st) (bytes st) st
      stands = active-stands st g (set-active s w g.good n l set)

      -- an FK of it, or of all forms, would have ended its activity
      not-erased : Erases (title st) w input → ⊥
      not-erased z =
          let found = held_found s w g.good s.active (title st) (bytes st) stands.here in
          let ended =
          erased-active-ends s w (record { font = font; output = output; input = input }) z.name z.says t
          (⊎_elim inl (λ q. inr (ap (titled_at w.directory false) q ∙ found)) z.meant) in
          omega (arith, ended.active, (set-active s w g.good n l set).0, directory-long w g.good.lengths)

      bytes_left : active_of then.world then.session ≡ active_of w s
      bytes_left =
          let v = said-stays s w g.good s.active (title st) (bytes st) stands.here input font output not-erased c r t in
          standing-active then.session then.world s.active (title st) (bytes st)
          (record { good = called-good st (command font output input) g; here = v.here ∙ stands.here }) same
          ∙ sym (standing-active s w s.active (title st) (bytes st) stands refl)

    said-untouched : (Enters n w input → ⊥) → UnsetOrSame n st then
    said-untouched spared = ⊎_elim
        inl
        (λ (same : Same then.session.counters then.session.active).
        ⊎_elim
        (λ (set : counter_set s.counters n ≡ true). inr (same.0, same.1, bytes_left set same.2))
        (λ (unset : counter_set s.counters n ≡ false). inl (ap (λ (k : ℕ). eqb k 1) same.0 ∙ unset))
        (either (counter_set s.counters n)))
        (said-left spared)

  pub command-untouched : Avoids (Enters n) (command font output input) st → UnsetOrSame n st (called st (command font output input))
  command-untouched avoids = by_said s font w output input (UnsetOrSame n st) (inr (refl, refl, refl)) (λ c r t. said-untouched c r t (λ e. avoids e t))
