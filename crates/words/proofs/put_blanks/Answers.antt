use native.Mathlib.Omega.{arith}
use Rattle.words.proofs.Marks.{wrote-blanks}
use Rattle.words.proofs.put_blanks.Goals as goal

pub returns : goal.returns
returns c = wrote-blanks c.args.n c.fill.ensures (omega (arith, c.least.ensures, c.capped_sum.ensures))
