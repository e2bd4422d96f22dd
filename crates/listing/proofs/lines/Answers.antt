use Prim.Native.Nat.{◌-◌}
use native.Mathlib.Omega.{arith}
use Rattle.listing.proofs.Run.{listing_start, listing_step, listing-length, listing-stored}
use Rattle.listing.proofs.lines.Goals as goal

pub loop-i-init : goal.loop-i-init
loop-i-init c = listing_start _ _ _

pub list_entry-at-requires : goal.list_entry-at-requires
list_entry-at-requires c = (c.loop-i-test.true, omega (arith, c.loop-i.invariant.place))

pub loop-i-preserved : goal.loop-i-preserved
loop-i-preserved c = let e = c in let l = e in
    listing_step _ _ _ _ _ _ _ _ l.loop-i-test.true l.loop-i.invariant e.list_entry-at.ensures.0 e.list_entry-at.ensures.1

pub shape_of-output : goal.shape_of-output
shape_of-output c = c.loop-i.invariant.same

pub returns : goal.returns
returns c = (
  listing-length _ _ _ _ _ _ c.loop-i-test.false c.loop-i.invariant,
  listing-stored _ _ _ _ _ _ c.loop-i-test.false c.loop-i.invariant,
)
