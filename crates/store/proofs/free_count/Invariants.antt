use mathlib.Core.Path.{◌≡◌}
use Prim.Native.Nat.{◌+◌, ◌≤◌}
use lib.ListN.{drop}
use Rattle.cells.specs.Count.{times}
use Rattle.store.proofs.free_count.Given as goal

abbrev pub invariant-loop-link : goal.invariant-loop-link
invariant-loop-link l = (l.n ≤ l.link-index) × (l.n + times 65535 (drop l.link-index l.links) ≡ times 65535 l.links)
