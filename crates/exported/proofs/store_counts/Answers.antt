use Rattle.exported.proofs.Counts.{counts-three, counts-other}
use Rattle.exported.proofs.store_counts.Goals as goal

pub returns-then-counts-eq-COUNTS : goal.returns-then-counts-eq-COUNTS
returns-then-counts-eq-COUNTS c = counts-three _ _ _ _ c.if-counts-eq-COUNTS.true

pub returns-else-counts-eq-COUNTS : goal.returns-else-counts-eq-COUNTS
returns-else-counts-eq-COUNTS c = counts-other _ _ _ _ c.if-counts-eq-COUNTS.false
