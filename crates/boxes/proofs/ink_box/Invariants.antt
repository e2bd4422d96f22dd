use mathlib.Core.Path.{◌≡◌}
use Prim.Native.Nat.{◌≤◌, max}
use lib.ListN.{length as len}
use Rattle.dots.specs.Dots.{drawn, box}
use Rattle.boxes.proofs.ink_box.Given as goal

abbrev pub invariant-loop-y : goal.invariant-loop-y
invariant-loop-y l = (l.y ≤ max l.area.y0 l.bottom) × (l.page ≡ drawn l.ink (box l.area.x0 l.area.y0 l.right l.y) l.initial.page) × (len l.page ≡ len l.initial.page)
