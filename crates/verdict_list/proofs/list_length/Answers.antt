use native.Mathlib.Omega.{arith}
use Rattle.verdict_list.proofs.Listed.{lines-short}
use Rattle.verdict_list.proofs.list_length.Goals as goal

pub returns : goal.returns
returns c = omega (arith, c.list.ensures.place, lines-short c.args.verdicts.now 512 (omega arith))
