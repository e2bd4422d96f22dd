use Prim.Native.Nat.{◌+◌, ◌*◌, ◌/◌, ◌%◌, ℕ}
use Rattle.outside.specs.Outside.{outside}
use mathlib.Core.Path.{ap}
use lib.Dec.{eqb}
use native.Mathlib.Omega.{arith}
use Rattle.outside.proofs.WhiteOutside.{white-and}
use Rattle.outside.proofs.white_byte.Goals as goal

pub returns-else-b-eq0 : goal.returns-else-b-eq0
returns-else-b-eq0 c = let a = c.args in
    ap (λ (n : ℕ). eqb n 0)
    (white-and a.b c.outside_mask.result (λ k. outside a.width a.length (a.i % 76 * 8 + k) (a.i / 76)) (omega arith) c.outside_mask.ensures)
