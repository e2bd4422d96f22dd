use native.Mathlib.Omega.{arith}
use Rattle.slanted_lines.proofs.Roots.{root-found}
use Rattle.slanted_lines.proofs.discs.root.Goals as goal

pub returns : goal.returns
returns c = let v = c in root-found v.args.n v.loop-step.r v.loop-step.step v.args.bound v.loop-step.invariant.0 v.loop-step.invariant.1 (omega arith)
