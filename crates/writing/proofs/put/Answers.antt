use native.Mathlib.Omega.{arith}
use mathlib.Core.Path.{sym}
use lib.Seq.{set_out}
use Rattle.writing.proofs.put.Goals as goal

pub returns : goal.returns
returns c = record { place = omega arith; stored = sym (set_out _ _ _ c.if-at-out.false) }
