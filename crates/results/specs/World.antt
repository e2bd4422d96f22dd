-- What a command is lent, and the views of it that commands speak of.
-- Assumes nothing.
use Rattle.std.specs.Prelude.{ℕ, List}
use Rattle.stored_values.specs.Stored.{unset}
use Rattle.contents.specs.Content.{content}
use Rattle.memory.specs.Memory.{Memory, memory}
use Rattle.session.specs.declared.Session.{Session}
use Rattle.session.specs.Session.{no_form, activated}
use Rattle.lent.specs.Lent.{World, world}

-- the session and the lent lists together
pub record State : Type 0 where
  pub session : Session
  pub world : World

abbrev pub state : Session → World → State
state s w = record { session = s; world = w }

-- ---- views

abbrev pub memory_of : World → Memory
memory_of w = memory w.store w.links w.directory

abbrev pub with_memory : World → Memory → World
with_memory w m = world w.background m.store m.links m.directory w.values

abbrev pub with_background : World → List ℕ → World
with_background w b = world b w.store w.links w.directory w.values

abbrev pub with_values : World → List ℕ → World
with_values w v = world w.background w.store w.links w.directory v

-- the bytes of entry i
abbrev pub content_at : World → ℕ → List ℕ
content_at w i = content w.store w.links w.directory i

-- "FR unsets all values; so does the end of activity, by N or FK": the variables; the counters go with `activated`
abbrev pub unset_in : World → World
unset_in w = with_values w (unset w.values)

-- no form is active any more
abbrev pub inactive : State → State
inactive st = state (activated st.session no_form) (unset_in st.world)
