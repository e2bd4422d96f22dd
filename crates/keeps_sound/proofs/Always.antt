-- From opening on, through any calls on the sessions that were answered: every world is sound, and no call answers 3. From a repair on every world is sound, too.
-- Assumes nothing.
use mathlib.Core.Path.{◌≡◌}
use mathlib.Core.Bool.{true}
use mathlib.Core.List.{List, [], ◌∷◌}
use Prim.Native.Nat.{ℕ}
use Rattle.sound.specs.Sound.{sound}
use Rattle.answers.specs.declared.Answer.TheVariants.{Taken, Unsound}
use Rattle.lent.specs.Lent.{World}
use Rattle.results.specs.World.{State}
use Rattle.calls.specs.Station.{opened, commanded, labelled_by}
use Rattle.keeps_sound.specs.Good.{Good}
use Rattle.keeps_sound.specs.Tens.{Tens}
use Rattle.keeps_sound.specs.Calls.{Call, command, label, pass, called, through, opened_state, Start, opens, repairs, Begins, started_state}
use Rattle.keeps_sound.proofs.Layers.{good-sound}
use Rattle.keeps_sound.proofs.Opening.{opened-good, opened-tens}
use Rattle.keeps_sound.proofs.Repairing.{repaired-good, repaired-tens}
use Rattle.keeps_sound.proofs.Labels.{label-good, label-tens}
use Rattle.keeps_sound.proofs.Calls.{command-good}
use Rattle.keeps_sound.proofs.SetsClock.{pass-good, pass-tens}
use Rattle.keeps_sound.proofs.TenCounters.{command-tens}
use Rattle.keeps_sound.proofs.Never.{command-never, label-never}

pub record GoodState (st : State) : Type 0 where
  pub good : Good st.session st.world
  pub tens : Tens st.session

pub called-good : (st : State) (c : Call) → GoodState st → GoodState (called st c)
called-good st (command font output input) g = record {
  good = command-good st.session font st.world output input g.good g.tens;
  tens = command-tens font st.world st.session g.tens output input;
}
called-good st (label font page) g = record {
  good = label-good st.session st.world g.good g.tens font page;
  tens = label-tens st.session st.world g.good g.tens font page;
}
called-good st (pass seconds) g = record {
  good = pass-good st.session st.world seconds g.good;
  tens = pass-tens st.session seconds g.tens;
}

pub through-good : (st : State) (cs : List Call) → GoodState st → GoodState (through st cs)
through-good st [] g = g
through-good st (c ∷ cs) g = through-good (called st c) cs (called-good st c g)

-- what a start leaves that is taken
pub started-good : (b : Start) → Begins b → GoodState (started_state b)
started-good (opens page w) taken = record { good = opened-good page w taken; tens = opened-tens page w }
started-good (repairs s rows m values output) taken = record {
  good = repaired-good s rows m values output taken;
  tens = repaired-tens s rows m values output taken;
}

-- and what any calls lead to from there
pub started-always : (b : Start) → Begins b → (cs : List Call) → GoodState (through (started_state b) cs)
started-always b taken cs = through-good (started_state b) cs (started-good b taken)

module _ (page : List ℕ) (w : World) (taken : (opened page w).outcome.answer ≡ Taken) (cs : List Call) where
  abbrev then : State
  then = through (opened_state page w) cs

  pub always-good : GoodState then
  always-good = started-always (opens page w) taken cs

  pub always-sound : sound then.session then.world ≡ true
  always-sound = good-sound then.session then.world always-good.good

  pub command-never-unsound : (font output input : List ℕ) → (commanded then.session font then.world output input).outcome.answer ≡ Unsound → ⊥
  command-never-unsound font output input = command-never then.session font then.world always-sound output input

  pub label-never-unsound : (font p : List ℕ) → (labelled_by then.session font then.world p).outcome.answer ≡ Unsound → ⊥
  label-never-unsound font p = label-never then.session font then.world always-sound p
