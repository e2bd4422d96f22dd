use Rattle.finding.proofs.Finding.{found-or}
use Rattle.room.proofs.lowest_portion.Goals as goal

pub returns : goal.returns
returns c = rw (c.unwrap_or.ensures, c.lowest_free.ensures) (found-or _ _)
