use native.Mathlib.Omega.{arith}
use Rattle.words.proofs.Marks.{reason-short}
use Rattle.words.proofs.indent.Goals as goal

pub returns : goal.returns
returns c = omega (arith, c.put_reason-wide.ensures.place, c.place.ensures, c.least.ensures, reason-short c.args.a)
