use native.Mathlib.Omega.{arith}
use Rattle.slanted_lines.proofs.Strips.{reached-by, never-reached}
use Rattle.slanted_lines.proofs.spans.reached.Goals as goal

pub returns-then-m-gt0 : goal.returns-then-m-gt0
returns-then-m-gt0 c = let a = c.args in rw c.less.ensures (reached-by a.m a.s a.t c.if-m-gt0.true)

pub returns : goal.returns
returns c = let a = c.args in never-reached a.m a.s a.t (omega arith) (omega arith)
