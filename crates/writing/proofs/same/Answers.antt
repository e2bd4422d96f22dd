use Prim.Native.Nat.{ℕ, ◌+◌, ◌-◌}
use mathlib.Core.Path.{◌∙◌, refl, sym, ap}
use mathlib.Core.Bool.{Bool, ◌&&◌, and-true}
use native.Mathlib.Omega.{arith}
use lib.Bits.{bit_or}
use lib.Dec.{eqb}
use lib.ListN.{drop}
use Rattle.writing.specs.Writing.{equal}
use Rattle.writing.proofs.Writes.{equal-joined, equal-end, equal-lengths}
use Rattle.writing.proofs.same.Goals as goal

pub returns-then-a-b : goal.returns-then-a-b
returns-then-a-b c = sym (equal-lengths _ _ c.if-a-b.true)

pub loop-i-init : goal.loop-i-init
loop-i-init c = refl

pub loop-i-preserved : goal.loop-i-preserved
loop-i-preserved c = let a = c.args.a.now in
    let b = c.args.b.now in
    let i = c.loop-i.i in
    let any = c.loop-i.any in
    ap (λ (r : ℕ). eqb (bit_or any r) 0 && equal (drop (i + 1) a) (drop (i + 1) b)) c.differs-any.ensures
    ∙ equal-joined a b i any c.loop-i-test.true (omega arith)
    ∙ c.loop-i.invariant

pub returns : goal.returns
returns c = let any = c.loop-i.any in
    sym (and-true (eqb any 0))
    ∙ ap (λ (e : Bool). eqb any 0 && e) (sym (equal-end _ _ c.loop-i.i c.loop-i-test.false (omega arith)))
    ∙ c.loop-i.invariant
