use mathlib.Core.Path.{◌≡◌}
use Prim.Native.Nat.{◌+◌, ◌-◌, ◌*◌, ◌^◌, ◌≤◌}
use lib.ListN.{length}
use Rattle.font.specs.Rules.{Places}
use Rattle.font.proofs.find_places.Given as goal

abbrev pub invariant-loop-i : goal.invariant-loop-i
invariant-loop-i l = (l.at + (95 - l._i) * 65539 ≤ 2 ^ 30) × Places l.font l.places (95 - l._i) l.at × (length l.places ≡ length l.initial.places)
