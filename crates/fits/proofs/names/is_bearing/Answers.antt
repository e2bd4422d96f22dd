use mathlib.Core.Path.{sym, ◌∙◌}
use Prim.Native.Nat.{◌-◌}
use Rattle.fits.proofs.Bearing.{same-told, bears-length, bears-differs, compared-start, compared-step, compared-done}
use Rattle.fits.proofs.names.is_bearing.Goals as goal

pub returns-then-name_length_at-name : goal.returns-then-name_length_at-name
returns-then-name_length_at-name c = sym (bears-length _ _ (λ e. c.if-name_length_at-name.true (c.name_length_at.ensures.0 ∙ e)))

pub loop-k-init : goal.loop-k-init
loop-k-init c = compared-start _ _

pub returns-then-differs : goal.returns-then-differs
returns-then-differs c = let c1 = c in let c3 = c1 in let c5 = c3 in let c6 = c5 in let a = c6.args in
    sym (bears-differs _ _ c6.loop-k.k c5.loop-k-test.true
    (same-told _ a.name.now _ _ _ _ _ c6.name_at-title.ensures c3.byte.ensures c1.differs.ensures c.if-differs.true))

pub loop-k-preserved : goal.loop-k-preserved
loop-k-preserved c = let c1 = c in let c3 = c1 in let c5 = c3 in let c6 = c5 in let a = c6.args in
    compared-step _ _ _ c5.loop-k-test.true
    (same-told _ a.name.now _ _ _ _ _ c6.name_at-title.ensures c3.byte.ensures c1.differs.ensures c.if-differs.false)
    c6.loop-k.invariant

pub returns : goal.returns
returns c = let c3 = c in
    sym (compared-done _ _ _ c.loop-k-test.false (sym c3.name_length_at.ensures.0 ∙ c3.if-name_length_at-name.false) c.loop-k.invariant)
