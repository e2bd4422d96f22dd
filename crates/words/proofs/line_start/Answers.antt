use mathlib.Core.Path.{◌≡◌, sym, ◌∙◌}
use lib.ListN.{length}
use native.Mathlib.Omega.{arith}
use Rattle.words.proofs.Table.{from-here, from_next, from_end}
use Rattle.words.proofs.line_start.Goals as goal

pub returns-then-left-eq0 : goal.returns-then-left-eq0
returns-then-left-eq0 c = sym (from-here _ c.loop-i.i c.loop-i.left c.if-left-eq0.true c.loop-i-test.true) ∙ c.loop-i.invariant

pub loop-i-preserved : goal.loop-i-preserved
loop-i-preserved c = rw c.passed-left.ensures (sym (from_next _ c.loop-i.i c.loop-i.left c.if-left-eq0.false c.loop-i-test.true) ∙ c.loop-i.invariant)

pub returns : goal.returns
returns c =
    let t = c.args.text.now in
    let e : c.loop-i.i ≡ length t = omega arith in
    rw (← e) (sym (from_end t c.loop-i.i c.loop-i.left (omega arith)) ∙ c.loop-i.invariant)
