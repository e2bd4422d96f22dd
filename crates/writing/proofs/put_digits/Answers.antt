use Prim.Native.Nat.{◌-◌}
use mathlib.Core.Path.{◌∙◌, refl, sym, ap}
use mathlib.Core.Bool.{false}
use native.Mathlib.Omega.{arith}
use lib.ListN.{length-set}
use Rattle.writing.specs.Writing.{cased}
use Rattle.writing.proofs.Writes.{digits-room, digits-less, digits-turn, digits-end, wrote-same, cased_kept}
use Rattle.std.proofs.Common.{rules}
use Rattle.writing.proofs.put_digits.Goals as goal

pub loop-m-init : goal.loop-m-init
loop-m-init c = (search rules, search rules, refl, refl)

pub overflow_sub-k : goal.overflow_sub-k
overflow_sub-k c = let l = c.loop-m in digits-room l.k l.m l.invariant.1 (search rules)

pub loop-m-smaller : goal.loop-m-smaller
loop-m-smaller c = let l = c.loop-m in omega (arith, digits-room l.k l.m l.invariant.1 (search rules))

pub loop-m-preserved : goal.loop-m-preserved
loop-m-preserved c = let l = c.loop-m in
    let r = digits-room l.k l.m l.invariant.1 (search rules) in (
      omega arith,
      digits-less l.k l.m r l.invariant.1,
      simp length-set l.invariant.2,
      sym (digits-turn l.d l.k l.m c.digit_byte.result r (omega arith) (search rules) c.digit_byte.ensures) ∙ l.invariant.3,
    )

pub slice_bounds-rest-end : goal.slice_bounds-rest-end
slice_bounds-rest-end c = simp length-set (sym c.loop-m.invariant.2)

pub returns : goal.returns
returns c = let l = c.loop-m in
    let b = c.digit_byte-2 in
    wrote-same c.copy.ensures (ap (cased false) (c.rest.ensures ∙ digits-end l.d l.k l.m b.result (omega arith) c.loop-m-test.false b.ensures ∙ l.invariant.3) ∙ cased_kept _)
