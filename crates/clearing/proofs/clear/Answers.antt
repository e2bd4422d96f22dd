use Rattle.memory.specs.Memory.{memory}
use Rattle.clearing.proofs.clear.Goals as goal

pub returns : goal.returns
returns c = let d = c in
    let l = d in
    let s = l in
    λ i. memory (s.zero.ensures i) (l.free_all.ensures i) (d.zero-2.ensures i)
