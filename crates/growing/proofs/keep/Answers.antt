use Rattle.memory.specs.Memory.{memory}
use Rattle.starting.proofs.Starting.{begun-is}
use Rattle.growing.proofs.Keeping.{kept-is}
use Rattle.std.proofs.Common.{rules}
use Rattle.growing.proofs.keep.Goals as goal

pub returns : goal.returns
returns c = let a = c.args in
    let began = c.begin-i.ensures in
    kept-is (memory a.store.now a.links.now a.directory.now) _ _ _ _ _ _ began.at (begun-is _ _ _ _ _ _ _ began.links began.directory) c.grow.ensures
