use mathlib.Core.Path.{◌≡◌}
use Rattle.outside.specs.Outside.{white_from}
use Rattle.outside.proofs.WhiteOutside.{white_left}
use Rattle.outside.proofs.white_bytes.Given as goal

abbrev pub invariant-loop-i : goal.invariant-loop-i
invariant-loop-i l = white_left l.width l.length l.at l.bytes l.i ≡ white_from l.width l.length l.at l.bytes
