use mathlib.Core.Path.{◌≡◌}
use mathlib.Core.Bool.{true}
use Prim.Native.Nat.{◌-◌}
use lib.ListN.{length}
use Rattle.cells.specs.Count.{all_to}
use Rattle.content_check.specs.Contents.{content_ok}
use Rattle.content_check.proofs.all_ok.Given as goal

abbrev pub invariant-loop-i : goal.invariant-loop-i
invariant-loop-i l = (length l.buffer ≡ 32768) × (all_to (content_ok l.store l.links l.directory) l.i ≡ true)
