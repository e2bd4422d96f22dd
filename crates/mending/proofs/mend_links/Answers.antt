use native.Mathlib.Omega.{arith}
use mathlib.Core.Path.{◌∙◌}
use lib.ListN.{length}
use Prim.Native.Nat.{◌≤◌, ◌<◌}
use Rattle.mending.specs.Mending.{kept_link, kept_links}
use Rattle.mending.proofs.Parts.{mapped-start, mapped-step, mapped-done, link-same}
use Rattle.std.proofs.Common.{rules}
use Rattle.mending.proofs.mend_links.Goals as goal

pub loop-q-init : goal.loop-q-init
loop-q-init c = mapped-start _ _

pub loop-q-preserved : goal.loop-q-preserved
loop-q-preserved c = let m = c.loop-q.invariant in
    let b : c.loop-q.q < length c.loop-q.links = omega (arith, m.long, c.loop-q-test.true) in
    mapped-step _ _ _ _ _ b (c.kept_link.ensures ∙ link-same _ _ _ _ (m.ahead _ (search rules))) m

pub shape_of-links : goal.shape_of-links
shape_of-links c = c.loop-q.invariant.long

pub returns : goal.returns
unfolding kept_links
returns c = let b : length c.loop-q.links ≤ c.loop-q.q = omega (arith, c.loop-q.invariant.long, c.loop-q-test.false) in mapped-done _ _ _ _ b c.loop-q.invariant
