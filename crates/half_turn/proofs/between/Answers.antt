use mathlib.Core.Path.{refl}
use Prim.Native.Nat.{◌*◌, ◌^◌}
use native.Mathlib.Omega.{arith}
use lib.Pow.{mod-mod-pow}
use Rattle.half_turn.proofs.Turned.{between-byte}
use Rattle.half_turn.proofs.between.Goals as goal

pub returns : goal.returns
returns c = let a = c.args in between-byte a.a a.b a.t _ _ (omega arith) (omega arith) c.requires (mod-mod-pow (a.a * 2 ^ a.t) 24 8) refl
