use mathlib.Core.Path.{refl, sym, ◌∙◌}
use Prim.Native.Nat.{◌-◌}
use native.Mathlib.Omega.{arith}
use lib.ListN.{length-set}
use Rattle.lasting.proofs.LinkSteps.{take_next, take-end, start-taking}
use Rattle.lasting.proofs.links.take_links.Goals as goal

pub loop-i-preserved : goal.loop-i-preserved
loop-i-preserved c = let a = c.args in let l = c.loop-i in (
  rw (c.set_link.ensures, c.two_at.ensures) (sym (take_next a.file.now a.at l.i l.links c.loop-i-test.true) ∙ l.invariant.0),
  rw (c.set_link.ensures, length-set) l.invariant.1,
)

pub returns : goal.returns
returns c = let a = c.args in let l = c.loop-i in sym (take-end a.file.now a.at l.i l.links c.loop-i-test.false) ∙ l.invariant.0 ∙ start-taking a.file.now a.at a.links.now
