use Prim.Native.Nat.{◌+◌, ◌-◌, ◌≤◌}
use lib.ListN.{take}
use Rattle.writing.specs.Writing.{Wrote, cased}
use Rattle.writing.proofs.copy.Given as goal

abbrev pub invariant-loop-j : goal.invariant-loop-j
invariant-loop-j l = (l.j ≤ l.n) × Wrote l.initial.out l.at (cased l.fold (take l.j l.from)) (l.at + l.j) l.out
