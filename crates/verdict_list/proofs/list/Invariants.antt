use Prim.Native.Nat.{◌-◌, ◌≤◌}
use Rattle.writing.specs.Writing.{Wrote}
use Rattle.verdict_list.specs.Lines.{lines_to}
use Rattle.verdict_list.proofs.list.Given as goal

abbrev pub invariant-loop-i : goal.invariant-loop-i
invariant-loop-i l = (l.i ≤ 512) × Wrote l.initial.output 0 (lines_to l.verdicts l.i) l.at l.output
