use native.Mathlib.Omega.{arith}
use mathlib.Core.Path.{◌∙◌, sym}
use Rattle.numbers.proofs.Laws.{digit-small, value-more, value-end, value-grows}
use Rattle.numbers.proofs.value.Goals as goal

pub loop-b-preserved : goal.loop-b-preserved
loop-b-preserved c = let l = c.loop-b in
    rw c.digit.ensures (
      value-grows l.v _ l.b-index l.invariant.0 (digit-small _),
      sym (value-more l.v _ l.b-index _ c.loop-b-test.true (omega arith)) ∙ l.invariant.1,
    )

pub returns : goal.returns
returns c = let l = c.loop-b in sym (value-end l.v _ l.b-index _ c.loop-b-test.false) ∙ l.invariant.1
