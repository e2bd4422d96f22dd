-- Paper 02, §5: what 23 tells.
-- Assumes nothing.
use Rattle.std.specs.Prelude.{◌<◌, ◌≡◌, None}
use Rattle.finding.specs.Find.{recorded}
use Rattle.store.specs.Chain.{free_count}
use Rattle.room.specs.Room.{empty_count}
use Rattle.lent.specs.Lent.{World}

-- "at times the directory is what ran out": no entry is empty, though portions are free. No form is being recorded, since "a recorded line asks for no entry"
pub record EntriesRanOut (w : World) : Type 0 where
  pub quiet : recorded w.directory ≡ None
  pub none : empty_count w.directory ≡ 0
  pub free : 0 < free_count w.links
