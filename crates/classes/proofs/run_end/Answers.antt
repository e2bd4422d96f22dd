use mathlib.Core.Path.{sym}
use Rattle.classes.proofs.Laws.{run_more, run-stop, run_end}
use native.Mathlib.Omega.{arith}
use Rattle.classes.proofs.run_end.Goals as goal

pub returns-then-not-in_class : goal.returns-then-not-in_class
returns-then-not-in_class c = let a = c.args in let i = c.loop-i.i in omega (arith, run-stop a.k a.line.now i (omega arith) (sym c.if-not-in_class.ensures))

pub loop-i-preserved : goal.loop-i-preserved
loop-i-preserved c = let a = c.args in let i = c.loop-i.i in omega (arith, run_more a.k a.line.now i (omega arith) (sym c.if-not-in_class.ensures))

pub returns : goal.returns
returns c = let a = c.args in let i = c.loop-i.i in grind (arith, run_end a.k a.line.now i (omega arith), run_end a.k a.line.now a.at)
