use Prim.Native.Nat.{◌+◌, ◌≤◌}
use Rattle.slanted_lines.specs.Code.{Around}
use Rattle.slanted_lines.proofs.discs.root.Given as goal

abbrev pub invariant-loop-step : goal.invariant-loop-step
invariant-loop-step l = (Around l.n l.r l.step) × (l.r + l.step ≤ l.bound)

abbrev pub decreases-loop-step : goal.decreases-loop-step
decreases-loop-step l = l.step
