use mathlib.Core.Path.{◌≡◌}
use Prim.Native.Nat.{◌*◌, ◌≤◌}
use lib.ListN.{length}
use Rattle.text.specs.Text.{along}
use Rattle.text.proofs.Cells.{drawn_to}
use Rattle.text.proofs.ink_found.Given as goal

abbrev pub invariant-loop-b : goal.invariant-loop-b
invariant-loop-b l = (l.u ≡ l.b-index * along l.font l.scale.h) × (l.u ≤ l.b-index * 1530) × (l.page ≡ drawn_to l.ink l.s l.font l.scale.h l.scale.v l.text l.initial.page l.b-index) × (length l.page ≡ length l.initial.page)
