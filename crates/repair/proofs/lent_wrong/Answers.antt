use Rattle.repair.proofs.Call.{rows-wrong}
use Rattle.repair.proofs.lent_wrong.Goals as goal

pub returns-then-rows-gt-MOST_ROWS : goal.returns-then-rows-gt-MOST_ROWS
returns-then-rows-gt-MOST_ROWS c = rows-wrong _ _ _ _ _ c.if-rows-gt-MOST_ROWS.true
