use Rattle.low_first.proofs.Numbers.{byte-number}
use Rattle.image.proofs.Ten.{fill-next, fill_none}
use Rattle.image.specs.Image.{every_five}
use native.Mathlib.Omega.{arith}
use Prim.Native.Nat.{◌+◌, ◌-◌, ◌*◌}
use mathlib.Core.Path.{refl, sym, ◌∙◌}
use Rattle.image.proofs.counters_of.Goals as goal

pub loop-k-init : goal.loop-k-init
unfolding every_five
loop-k-init c = (refl, refl)

pub loop-k-preserved : goal.loop-k-preserved
loop-k-preserved c = let l = c.loop-k in
    let h = c.loop-k-test.true in
    let b = c.args.image.now in (
      rw (c.byte.ensures, ← byte-number b (15 + 5 * l.k)) (sym (fill-next 1 b 15 l.k l.set h) ∙ l.invariant.0),
      rw c.value_at.ensures (sym (fill-next 4 b 16 l.k l.value h) ∙ l.invariant.1),
    )

pub returns : goal.returns
returns c = let l = c.loop-k in let h = c.loop-k-test.false in let b = c.args.image.now in
    cc (fill_none 1 b 15 l.k l.set h, fill_none 4 b 16 l.k l.value h, l.invariant.0, l.invariant.1)
