use native.Mathlib.Omega.{arith}
use Prim.Native.Char.{code}
use Rattle.classes.proofs.Laws.{in-range, above-range}
use Rattle.numbers.proofs.digit.Goals as goal

pub returns-in-48-to-57 : goal.returns-in-48-to-57
returns-in-48-to-57 c = rw (in-range (code "0") (code "9") c.args.b (omega arith) (omega arith)) c.wide.ensures

pub returns-in_default-2 : goal.returns-in_default-2
returns-in_default-2 c = rw (above-range (code "0") (code "9") c.args.b (omega arith))
