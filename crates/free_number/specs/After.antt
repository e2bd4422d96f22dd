-- Paper 02, §6: "Keep the number of free portions in the session, right after FS, each recorded line, FE, FK, GM, GK and opening." What each makes of the number; FE
-- leaves it, and opening has it from the links it is lent.
-- Assumes nothing.
use Rattle.std.specs.Prelude.{Bool, List, ℕ, ◌+◌, ◌-◌}
use Rattle.store.specs.Chain.{needed}
use Rattle.store.specs.Entry.{size, many}
use Rattle.room.specs.Room.{needed_for}
use Rattle.session.specs.declared.Session.{Session}
use Rattle.session.specs.Session.{roomed, sixteen_bits}
use Rattle.free_number.specs.Number.{called_by}

-- FS and GM: a new entry takes the portions that its size needs; "A starting form takes one portion", and its size is 0
abbrev pub after_stored : Session → ℕ → Session
after_stored s size = roomed s (s.free - needed size)

-- a recorded line: entry e takes the portions that so many bytes more need
abbrev pub after_grown : Session → List ℕ → ℕ → Session
after_grown s e more = roomed s (s.free - needed_for (size e) more)

-- FK and GK: what entry e called for is free again
abbrev pub after_erased : Session → List ℕ → Session
after_erased s e = roomed s (sixteen_bits (s.free + many e))

-- `FK"*"` and `GK"*"`: what all forms or all pictures called for
abbrev pub after_erased_all : Session → Bool → List ℕ → Session
after_erased_all s picture directory = roomed s (sixteen_bits (s.free + called_by picture directory))
