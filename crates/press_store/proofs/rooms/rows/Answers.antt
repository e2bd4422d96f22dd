-- `rows` has the length it says: a law on repeated zeros, so that nobody counts them.
use Prim.Native.Nat.{ℕ}
use mathlib.Core.Path.{sym}
use Rattle.std.proofs.lemmas.List.{length-replicate}
use Rattle.press_store.proofs.rooms.rows.Goals as goal

pub returns : goal.returns
returns c = sym (length-replicate {A = ℕ} 304000 0)
