use native.Mathlib.Omega.{arith}
use Rattle.eights.proofs.EightDots.{then-pair}
use Rattle.eights.proofs.ink_pair.Goals as goal

pub returns : goal.returns
returns c = let a = c.args in
    then-pair a.ink a.x a.y a.m a.page.now c.ink_mask.new.page c.ink_mask-2.new.page (omega arith) c.ink_mask.ensures c.ink_mask-2.ensures
