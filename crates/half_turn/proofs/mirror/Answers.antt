use native.Mathlib.Omega.{arith}
use Rattle.half_turn.proofs.Turned.{mirror-byte}
use Rattle.half_turn.proofs.mirror.Goals as goal

pub returns : goal.returns
returns c = mirror-byte c.args.b (omega arith)
