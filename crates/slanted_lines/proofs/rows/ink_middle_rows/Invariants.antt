use mathlib.Core.Path.{◌≡◌}
use Prim.Native.Nat.{◌≤◌}
use lib.ListN.{length as len}
use Rattle.dots.specs.Dots.{drawn}
use Rattle.slanted_lines.specs.Code.{near_line, part}
use Rattle.slanted_lines.proofs.rows.ink_middle_rows.Given as goal

abbrev pub invariant-loop-y : goal.invariant-loop-y
invariant-loop-y l = (l.y0 ≤ l.y) × (l.y ≤ l.y1) × (l.page ≡ drawn l.ink (part 0 l.y0 l.right l.y (near_line l.l)) l.initial.page) × (len l.page ≡ len l.initial.page)
