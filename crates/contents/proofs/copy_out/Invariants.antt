use Prim.Native.Nat.{◌-◌, ◌≤◌}
use Rattle.contents.specs.Content.{cursor_at}
use Rattle.contents.proofs.Reading.{Copying}
use Rattle.contents.proofs.copy_out.Given as goal

abbrev pub invariant-loop-k : goal.invariant-loop-k
invariant-loop-k l = Copying l.store l.links (cursor_at l.links l.directory l.i) l.n l.initial.out l.out l.k l.p l.at × (l.at ≤ 255)

abbrev pub decreases-loop-k : goal.decreases-loop-k
decreases-loop-k l = l.n - l.k
