use mathlib.Core.Path.{◌≡◌}
use Prim.Native.Nat.{◌-◌, ◌/◌, ◌≤◌}
use lib.ListN.{length}
use Rattle.store_sound.specs.Sound.{firsts, counts}
use Rattle.chain_check.specs.Claim.{Claimed}
use Rattle.chain_check.proofs.claim_all.Given as goal

abbrev pub invariant-loop-i : goal.invariant-loop-i
invariant-loop-i l = (l.n ≡ length l.directory / 16) × (l.i ≤ l.n) × (length l.marks ≡ length l.initial.marks) × Claimed l.links (firsts l.directory) (counts l.directory) l.i l.marks
