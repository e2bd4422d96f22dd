use mathlib.Core.Path.{sym, ◌∙◌}
use native.Mathlib.Omega.{arith}
use Rattle.counters.proofs.Tens.{digits-start, digits-next, digits-none}
use Rattle.counters.proofs.digits_of.Goals as goal

pub loop-left-init : goal.loop-left-init
loop-left-init c = (omega arith, digits-start c.args.n c.args.w c.least-left.result c.least-left.ensures)

pub loop-left-preserved : goal.loop-left-preserved
loop-left-preserved c = let l = c.loop-left in (omega arith, digits-next l.out l.rest l.left c.loop-left-test.true ∙ l.invariant.1)

pub returns : goal.returns
returns c = let l = c.loop-left in sym (digits-none l.out l.rest l.left c.loop-left-test.false) ∙ l.invariant.1
