use Prim.Native.Nat.{◌+◌}
use Prim.Native.Char.{code}
use native.Mathlib.Omega.{arith}
use Rattle.elements.specs.Elements.{held_at}
use Rattle.numbers.proofs.ClassesLaws.{inside, in-range, below-range, above-range}
use Rattle.elements.proofs.Steps.{modifier-ends}
use Rattle.elements.proofs.held_at.Goals.{in_default-via-then-b-lt48, in_default-via-else-b-lt48+else-b-lt58}
use Rattle.elements.proofs.held_at.Goals as goal

pub overflow_sub-result : goal.overflow_sub-result
overflow_sub-result c = let a = c.args in
    let k = inside a.line.now (a.at + 1) (omega arith) in
    let h = rw (← c.modifier_at.ensures, c.in-Ok.is) at (modifier-ends a.line.now (a.at + 2) (omega arith)) in
    omega (arith, h.0)

pub returns-in-Ok : goal.returns-in-Ok
unfolding held_at
returns-in-Ok c = rw (← c.byte-b.ensures, in-range (code "0") (code "9") c.byte-b.result (omega arith) (omega arith), ← c.modifier_at.ensures, c.in-Ok.is, ← c.held.ensures)

pub returns-in-Err : goal.returns-in-Err
unfolding held_at
returns-in-Err c = rw (← c.byte-b.ensures, in-range (code "0") (code "9") c.byte-b.result (omega arith) (omega arith), ← c.modifier_at.ensures, c.in-Err.is, ← c.point.ensures)

pub returns-in_default : goal.returns-in_default
unfolding held_at
returns-in_default c = elim c.in_default.branch [
  | in_default-via-then-b-lt48 w ↦ rw (← c.byte-b.ensures, below-range (code "0") (code "9") c.byte-b.result (omega arith), ← c.point-in_default.ensures)
  | in_default-via-else-b-lt48+else-b-lt58 w ↦ rw (← c.byte-b.ensures, above-range (code "0") (code "9") c.byte-b.result (omega arith), ← c.point-in_default.ensures)
]
