use native.Mathlib.Omega.{arith}
use Rattle.classes.proofs.Laws.{run_room}
use Rattle.classes.specs.declared.Class.TheVariants.{Digit}
use Rattle.numbers.proofs.number.Goals as goal

pub value-requires : goal.value-requires
value-requires c = omega (arith, run_room Digit c.args.line.now c.args.at)
