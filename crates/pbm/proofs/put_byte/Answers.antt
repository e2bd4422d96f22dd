use mathlib.Core.Path.{ap}
use mathlib.Core.List.{[], ◌∷◌}
use Prim.Native.Nat.{ℕ}
use Rattle.writing.proofs.Writes.{wrote-same}
use Rattle.pbm.proofs.put_byte.Goals as goal

pub returns : goal.returns
returns c = wrote-same c.put.ensures (ap (λ (b : ℕ). b ∷ []) c.byte_at.ensures)
