use mathlib.Core.Path.{refl, sym, ◌∙◌}
use Prim.Native.Nat.{◌-◌}
use native.Mathlib.Omega.{arith}
use lib.Seq.{length-sets}
use Rattle.lasting.proofs.LinkSteps.{put_next, put-end, start-putting}
use Rattle.lasting.proofs.links.put_links.Goals as goal

pub loop-i-preserved : goal.loop-i-preserved
loop-i-preserved c = let a = c.args in let l = c.loop-i in (
  rw (c.put_two.ensures, c.link.ensures) (sym (put_next a.links.now a.at l.i l.file c.loop-i-test.true) ∙ l.invariant.0),
  rw (c.put_two.ensures, length-sets) l.invariant.1,
)

pub returns : goal.returns
returns c = let a = c.args in let l = c.loop-i in sym (put-end a.links.now a.at l.i l.file c.loop-i-test.false) ∙ l.invariant.0 ∙ start-putting a.links.now a.at a.file.now
