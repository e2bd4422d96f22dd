use native.Mathlib.Omega.{arith}
use Rattle.slanted_lines.proofs.Lines.{as-given, turned_round}
use Rattle.slanted_lines.proofs.downward.Goals as goal

pub returns-then-e-b : goal.returns-then-e-b
returns-then-e-b c = let a = c.args in turned_round a.a a.b a.c a.d a.e c.requires (omega arith)

pub returns : goal.returns
returns c = let a = c.args in as-given a.a a.b a.c a.d a.e c.requires (omega arith)
