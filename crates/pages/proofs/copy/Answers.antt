use mathlib.Core.Path.{◌∙◌}
use Prim.Native.Nat.{◌-◌}
use native.Mathlib.Omega.{arith}
use lib.ListN.{length-set}
use lib.Seq.{paste-zero}
use Rattle.pages.proofs.WholePages.{copy-next, copy_done}
use Rattle.std.proofs.Common.{rules}
use Rattle.pages.proofs.copy.Goals as goal

pub loop-i-init : goal.loop-i-init
loop-i-init c = let a = c.args in (search rules, paste-zero a.page.now 0 a.background.now, search rules)

pub loop-i-preserved : goal.loop-i-preserved
loop-i-preserved c = let l = c in let a = l.args in (
  search rules,
  copy-next a.page.now a.background.now l.loop-i.page l.loop-i.i (omega arith) (omega arith) l.loop-i.invariant.1,
  simp length-set (omega arith),
)

pub returns : goal.returns
returns c = let a = c.args in
    c.loop-i.invariant.1 ∙ copy_done a.page.now a.background.now c.loop-i.i (omega arith)
