-- Beyond paper 02, §3, for whoever books by the numbers: what labels show of a counter.
-- Assumes nothing.
use Rattle.std.specs.Prelude.{ℕ, ◌≡◌, false, ◌⊎◌, List}
use Rattle.declarations.specs.Declarations.{tenth}
use Rattle.counters.specs.Counters.{counter_set, counter_value}
use Rattle.elements.specs.declared.Part.TheVariants.{Whole}
use Rattle.elements.specs.declared.What.TheVariants.{Counter}
use Rattle.pieces.specs.Data.{value_of, values_in}
use Rattle.grammar.specs.declared.Command.TheVariants.{Values}
use Rattle.grammar.specs.declared.ValueCommand.TheVariants.{Counter as EnterCounter}
use Rattle.session.specs.Active.{active_of, active_declared}
use Rattle.lent.specs.Lent.{World}
use Rattle.results.specs.World.{State}
use Rattle.demands.specs.Calls.{Says}

-- "A counter is its w digits": those that the element `Cn` shows on a label that is drawn now
abbrev pub shows : State → ℕ → List ℕ
shows st n = value_of (active_declared st.world st.session) (values_in st.world.values st.session.counters st.session.clock) (Counter n Whole)

-- `?Cn,value`: a value is entered for counter n
pub record Enters (n : ℕ) (w : World) (input : List ℕ) : Type 0 where
  pub value : ℕ
  pub says : Says w input (Values (EnterCounter (record { n = n; value = value })))

-- serves the proofs alone: a call leaves counter n set and valued as before, and the active form's bytes as they were
abbrev pub SameCounter : ℕ → State → State → Type 0
SameCounter n st st' =
    (tenth st'.session.counters.set n ≡ tenth st.session.counters.set n)
    × (counter_value st'.session.counters n ≡ counter_value st.session.counters n)
    × (active_of st'.world st'.session ≡ active_of st.world st.session)

-- serves the proofs alone: it leaves counter n unset, or so
abbrev pub UnsetOrSame : ℕ → State → State → Type 0
UnsetOrSame n st st' = (counter_set st'.session.counters n ≡ false) ⊎ SameCounter n st st'
