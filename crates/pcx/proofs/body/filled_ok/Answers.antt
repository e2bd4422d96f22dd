use lib.ListN.{get_or}
use native.Mathlib.Omega.{arith}
use mathlib.Core.Path.{◌≡◌, sym, ap, ◌∙◌}
use mathlib.Core.Bool.{Bool, false, ◌&&◌}
use lib.Dec.{eqb}
use borrow.Author.Tests.{eq-eqb, ne_eqb}
use Rattle.pcx.proofs.Runs.{passing-start, passing_step, passing-stop, passing-done, times-le}
use Rattle.pcx.proofs.body.filled_ok.Goals as goal

pub loop-i-init : goal.loop-i-init
loop-i-init c = passing-start _

pub returns-then-empty_run : goal.returns-then-empty_run
returns-then-empty_run c = let l = c.loop-i in
    passing-stop _ l.i l.n l.count _ c.loop-i-test.true l.invariant (sym c.empty_run.ensures ∙ c.if-empty_run.true)

pub overflow_add-count : goal.overflow_add-count
overflow_add-count c = let l = c.loop-i in
    let a = c.args in
    omega (arith, c.times_of-count.ensures, times-le l.n (get_or a.bytes.now l.i 0) l.invariant.run, l.invariant.small, c.requires)

pub loop-i-preserved : goal.loop-i-preserved
loop-i-preserved c = let l = c.loop-i in
    passing_step _ l.i l.n l.count _ _ c.loop-i-test.true l.invariant
    (sym c.empty_run.ensures ∙ c.if-empty_run.false) c.times_of-count.ensures c.next_of-n.ensures

pub returns-then-n-eq0 : goal.returns-then-n-eq0
returns-then-n-eq0 c = let l = c.loop-i in
    ap (λ (t : Bool). t && eqb l.count c.args.total) (sym (eq-eqb l.n 0 c.if-n-eq0.true)) ∙ passing-done _ l.i l.n l.count _ c.loop-i-test.false l.invariant

pub returns-else-n-eq0 : goal.returns-else-n-eq0
returns-else-n-eq0 c = let l = c.loop-i in
    let no : eqb l.n 0 ≡ false = ne_eqb l.n 0 c.if-n-eq0.false in
    no ∙ ap (λ (t : Bool). t && eqb l.count c.args.total) (sym no) ∙ passing-done _ l.i l.n l.count _ c.loop-i-test.false l.invariant
