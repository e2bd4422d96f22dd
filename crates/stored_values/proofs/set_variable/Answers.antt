use Rattle.std.proofs.Common.{Ok}
use mathlib.Core.Path.{sym, ap, ◌∙◌}
use native.Mathlib.Omega.{arith}
use Rattle.stored_values.specs.Stored.{stored}
use Rattle.declarations.proofs.Tenths.{tenth-below}
use Rattle.padding.proofs.Padded.{enters-short}
use Rattle.stored_values.proofs.Entering.{variable-undeclared, variable-unfit, variable-taken}
use Rattle.stored_values.proofs.set_variable.Goals as goal

pub returns-then-m-lt1 : goal.returns-then-m-lt1
returns-then-m-lt1 c = let a = c.args in variable-undeclared a.d a.n a.text.now a.values.now (rw (← c.length_at-m.ensures) c.if-m-lt1.true)

pub store_text-requires : goal.store_text-requires
store_text-requires c = let a = c.args in
    let n = tenth-below a.d.lengths a.n (omega (arith, c.if-m-lt1.false, c.length_at-m.ensures)) in
    (omega arith, (omega (arith, c.length_at-m.ensures), enters-short _ _ _ (sym c.may_enter.ensures ∙ c.if-not-may_enter.false)))

pub returns-then-not-may_enter : goal.returns-then-not-may_enter
returns-then-not-may_enter c = let a = c.args in
    variable-unfit a.d a.n a.text.now a.values.now (rw (← c.length_at-m.ensures) c.if-m-lt1.false) (rw (← c.length_at-m.ensures, ← c.side_at-side.ensures) (sym c.may_enter.ensures ∙ c.if-not-may_enter.true))

pub returns : goal.returns
returns c = let a = c.args in
    ap (stored (Ok tt)) c.store_text.ensures ∙ rw (c.side_at-side.ensures, c.length_at-m.ensures) (variable-taken a.d a.n a.text.now a.values.now (rw (← c.length_at-m.ensures) c.if-m-lt1.false) (rw (← c.length_at-m.ensures, ← c.side_at-side.ensures) (sym c.may_enter.ensures ∙ c.if-not-may_enter.false)))
