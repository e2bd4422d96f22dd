use mathlib.Core.Path.{◌∙◌, ap}
use Prim.Native.Nat.{ℕ, min}
use lib.ListN.{length}
use Rattle.cells.specs.Cell.{zeros}
use Rattle.erasing.proofs.Freeing.{erased-is}
use Rattle.erasing.proofs.drop_entry.Goals as goal

pub returns : goal.returns
unfolding zeros
returns c = erased-is _ _ _ _ _ _ c.first_at-p.ensures.0 (c.least-n.ensures ∙ ap (λ (x : ℕ). min x (length c.args.links.now)) c.many_at.ensures) c.free_chain.ensures c.put_entry.ensures
