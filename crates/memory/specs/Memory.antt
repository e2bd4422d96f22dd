-- Store, links and directory together: what a move changes.
use Rattle.std.specs.Prelude.{List, ℕ}
use Rattle.store.specs.Entry.{entry}

pub record Memory : Type 0 where
  pub store : List ℕ
  pub links : List ℕ
  pub directory : List ℕ

abbrev pub memory : List ℕ → List ℕ → List ℕ → Memory
memory store links directory = record { store = store; links = links; directory = directory }

-- entry i of a memory
abbrev pub entry_of : Memory → ℕ → List ℕ
entry_of m i = entry m.directory i
