use native.Mathlib.Omega.{arith}
use mathlib.Core.Path.{◌≡◌, refl, sym, ◌∙◌}
use mathlib.Core.Bool.{false≢true, true≢false}
use Prim.Native.Nat.{◌-◌, ◌/◌, ◌≤◌}
use lib.ListN.{length}
use Rattle.store_sound.specs.Sound.{firsts, counts}
use Rattle.chain_check.specs.Claim.{Claimed}
use Rattle.chain_check.proofs.Claims.{claimed-zero, claimed-more, claimed-not}
use Rattle.std.proofs.Common.{rules}
use Rattle.chain_check.proofs.claim_all.Goals as goal

pub loop-i-preserved : goal.loop-i-preserved
loop-i-preserved c = let t = c.if-not-claim_entry.false in (
  refl,
  omega arith,
  c.claim_entry.auto.marks ∙ c.loop-i.invariant.2,
  claimed-more c.args.links.now (firsts c.args.directory.now) (counts c.args.directory.now) c.loop-i.marks _ c.loop-i.i (omega arith) (sym c.claim_entry.ensures.walked ∙ t) (c.claim_entry.ensures.marked t) c.loop-i.invariant.3,
)

pub returns-then-not-claim_entry-clause-refused : goal.returns-then-not-claim_entry-clause-refused
returns-then-not-claim_entry-clause-refused c = λ e.
    claimed-not c.args.links.now (firsts c.args.directory.now) (counts c.args.directory.now) c.loop-i.marks c.loop-i.i _ (omega arith) (omega arith)
    (sym c.claim_entry.ensures.walked ∙ c.if-not-claim_entry.true) c.loop-i.invariant.3
