use mathlib.Core.Path.{sym, ◌∙◌}
use native.Mathlib.Omega.{arith}
use Rattle.ground.proofs.Stores.{put-end}
use Rattle.ground.proofs.bytes.put.Goals as goal

pub returns : goal.returns
returns c = let a = c.args in let l = c.loop-i in sym (put-end l.out a.at l.i a.text.now (omega (arith, l.invariant.0))) ∙ l.invariant.1
