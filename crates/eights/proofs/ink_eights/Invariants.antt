use mathlib.Core.Path.{◌≡◌}
use Prim.Native.Nat.{◌≤◌, max}
use lib.ListN.{length as len}
use Rattle.dots.specs.Dots.{drawn}
use Rattle.eights.specs.Eights.{eights}
use Rattle.eights.proofs.ink_eights.Given as goal

abbrev pub invariant-loop-y : goal.invariant-loop-y
invariant-loop-y l = (l.y ≤ max l.y0 l.bottom) × (l.page ≡ drawn l.ink (eights l.x l.y0 l.y l.m) l.initial.page) × (len l.page ≡ len l.initial.page)
