use Rattle.writing.proofs.Writes.{wrote-same}
use Rattle.verdict_list.proofs.Listed.{line-none, line-some, nothing-wrote}
use Rattle.verdict_list.proofs.put_entry.Goals as goal

pub returns-then-v-eq-UNSAID : goal.returns-then-v-eq-UNSAID
returns-then-v-eq-UNSAID c = nothing-wrote _ _ _ _ (line-none _ _ _ c.byte-v.ensures c.if-v-eq-UNSAID.true) c.least.ensures

pub returns : goal.returns
returns c = wrote-same c.put_line.ensures (line-some _ _ _ c.byte-v.ensures c.if-v-eq-UNSAID.false)
