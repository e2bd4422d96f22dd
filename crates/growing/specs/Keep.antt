-- A picture is kept whole: a new entry is started and grows by all its bytes.
use Rattle.std.specs.Prelude.{List, ℕ}
use Rattle.memory.specs.Memory.{Memory}
use Rattle.room.specs.Room.{lowest_entry}
use Rattle.starting.specs.Start.{begun}
use Rattle.growing.specs.Grow.{grown}

-- a new entry of a kind with all its bytes; whether there is room is asked before (crate `room`)
unfoldable pub kept : Memory → ℕ → List ℕ → List ℕ → Memory
kept m k n bytes = grown (begun m k n) (lowest_entry m.directory) bytes
