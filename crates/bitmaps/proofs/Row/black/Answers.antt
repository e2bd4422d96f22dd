use mathlib.Core.Path.{ap}
use Prim.Native.Nat.{ℕ, ◌%◌}
use Rattle.dots.specs.Dots.{bit_of}
use Rattle.bitmaps.proofs.Row.black.Goals as goal

pub returns : goal.returns
returns c = ap (λ (b : ℕ). bit_of b (c.args.g % 8)) c.byte.ensures
