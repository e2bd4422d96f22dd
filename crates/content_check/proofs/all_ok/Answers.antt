use mathlib.Core.Path.{refl, ◌∙◌}
use mathlib.Core.Bool.{true}
use Prim.Native.Nat.{◌-◌}
use Rattle.content_check.specs.Contents.{content_ok}
use Rattle.content_check.proofs.Entries.{contents-step, contents-stop, contents-done}
use Rattle.content_check.proofs.all_ok.Goals as goal

pub loop-i-init : goal.loop-i-init
loop-i-init c = (c.requires, refl)

pub loop-i-preserved : goal.loop-i-preserved
loop-i-preserved c = let o = c in let l = o.loop-i in
    (o.content_ok.auto.buffer ∙ l.invariant.0, contents-step _ _ _ _ _ l.invariant.1 o.content_ok.ensures c.if-not-content_ok.false)

pub returns-then-not-content_ok : goal.returns-then-not-content_ok
returns-then-not-content_ok c = let o = c in contents-stop _ _ _ _ _ o.loop-i-test.true o.content_ok.ensures c.if-not-content_ok.true

pub returns : goal.returns
returns c = contents-done _ _ _ _ c.loop-i-test.false c.loop-i.invariant.1
