use mathlib.Core.Path.{◌≡◌}
use Prim.Native.Nat.{◌*◌}
use Rattle.outside.specs.Outside.{white_outside}
use Rattle.outside.proofs.WhiteOutside.{rows_left}
use Rattle.outside.proofs.white_outside.Given as goal

abbrev pub invariant-loop-y : goal.invariant-loop-y
invariant-loop-y l = rows_left l.width l.length l.page (l.y * 76) ≡ white_outside l.width l.length l.page
