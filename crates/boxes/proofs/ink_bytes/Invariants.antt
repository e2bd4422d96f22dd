use mathlib.Core.Path.{◌≡◌}
use Prim.Native.Nat.{◌+◌, ◌*◌}
use lib.ListN.{length}
use Rattle.dots.specs.Dots.{drawn, box}
use Rattle.boxes.proofs.ink_bytes.Given as goal

abbrev pub invariant-loop-n : goal.invariant-loop-n
invariant-loop-n l = (l.page ≡ drawn l.ink (box (l.i * 8) l.y (l.n * 8) (l.y + 1)) l.initial.page) × (length l.page ≡ length l.initial.page)
