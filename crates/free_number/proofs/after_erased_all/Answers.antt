use Rattle.free_number.specs.Number.{called_by}
use Rattle.free_number.proofs.Taking.{all-freed-is}
use Rattle.free_number.proofs.after_erased_all.Goals as goal

pub returns : goal.returns
returns c = let a = c.args in
    all-freed-is a.session (called_by a.picture a.directory.now) _ _ _ c.sixteen_bits.ensures c.roomed.ensures _ c.called_by.ensures c.capped_sum.ensures
