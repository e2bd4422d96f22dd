use mathlib.Core.Path.{◌≡◌}
use Prim.Native.Nat.{◌-◌}
use lib.ListN.{length}
use Rattle.cells.specs.Count.{set_all}
use Rattle.store.specs.Chain.{chain}
use Rattle.chain_check.specs.Claim.{claim_ok}
use Rattle.chain_check.proofs.claim.Given as goal

abbrev pub invariant-loop : goal.invariant-loop
invariant-loop l = (length l.marks ≡ length l.initial.marks) × (claim_ok l.links l.initial.marks l.first l.n ≡ claim_ok l.links l.marks l.p (l.n - l.counter))
    × (set_all l.initial.marks (chain l.links l.first l.n) 1 ≡ set_all l.marks (chain l.links l.p (l.n - l.counter)) 1)
