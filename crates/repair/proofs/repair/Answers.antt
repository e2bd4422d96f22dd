use Rattle.memory.specs.Memory.{memory}
use Rattle.repair.proofs.Call.{rows_fit, free-fits, call-wrong, call-overlong, call-taken}
use Rattle.repair.proofs.repair.Goals as goal

pub returns-then-lent_wrong : goal.returns-then-lent_wrong
returns-then-lent_wrong c = let a = c.args in call-wrong a.rows (memory a.store.now a.links.now a.directory.now) a.values.now _ c.lent_wrong.ensures a.session a.output.now _ c.if-lent_wrong.true c.refused.ensures

pub returns-then-output-list_length : goal.returns-then-output-list_length
returns-then-output-list_length c = let a = c.args in call-overlong a.rows (memory a.store.now a.links.now a.directory.now) a.values.now _ c.lent_wrong.ensures a.session a.output.now c.if-lent_wrong.false _ _ _ c.judge.ensures c.list_length.ensures _ c.if-output-list_length.true c.refused-then-output-list_length.ensures

pub overflow_cast-rows : goal.overflow_cast-rows
overflow_cast-rows c = let a = c.args in record { fits = rows_fit a.rows (memory a.store.now a.links.now a.directory.now) a.values.now _ c.lent_wrong.ensures c.if-lent_wrong.false }

pub overflow_cast-free_count : goal.overflow_cast-free_count
overflow_cast-free_count c = let a = c.args in record { fits = free-fits a.rows (memory a.store.now a.links.now a.directory.now) a.values.now _ c.lent_wrong.ensures c.if-lent_wrong.false _ _ _ c.mend.ensures c.free_count.ensures }

pub shape_of-output : goal.shape_of-output
shape_of-output c = c.output-1.given

pub returns : goal.returns
returns c = let a = c.args in call-taken a.rows (memory a.store.now a.links.now a.directory.now) a.values.now _ c.lent_wrong.ensures a.session a.output.now c.if-lent_wrong.false _ _ _ c.judge.ensures c.list_length.ensures _ _ _ _ _ _ c.if-output-list_length.false c.list-written.ensures c.mend.ensures c.unset_all.ensures c.free_count.ensures c.fresh-next.ensures
