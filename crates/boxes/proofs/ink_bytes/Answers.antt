use native.Mathlib.Omega.{arith}
use Rattle.boxes.proofs.Boxes.{then-beside, box-none}
use Rattle.std.proofs.Common.{rules}
use Rattle.boxes.proofs.ink_bytes.Goals as goal

pub loop-n-init : goal.loop-n-init
loop-n-init c = (box-none _ _ _ _ _ _ (λ j. omega (arith, c.type_inv.page j)) (λ x y s t h. omega arith), search rules)

pub loop-n-preserved : goal.loop-n-preserved
loop-n-preserved c = let v = c.loop-n in (
  then-beside _ _ _ _ _ _ _ _ _ _ _ v.invariant.0 c.ink_byte.ensures (omega arith) (omega arith) (omega arith) (omega arith),
  omega (arith, c.ink_byte.auto.page),
)
