use Rattle.finding.proofs.Finding.{found-or}
use Rattle.room.proofs.lowest_entry.Goals as goal

pub returns : goal.returns
returns c = rw (c.unwrap_or.ensures, c.lowest_empty.ensures) (found-or _ _)
