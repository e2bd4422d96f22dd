use Prim.Native.Nat.{◌+◌, ◌-◌}
use mathlib.Core.Path.{◌≡◌}
use native.Mathlib.Omega.{arith}
use Rattle.classes.specs.Bytes.{run_at}
use Rattle.classes.specs.declared.Class.TheVariants.{Named}
use Rattle.classes.proofs.Laws.{run_end, eqb_comm}
use Rattle.row_limits.proofs.is_name.Goals as goal

pub returns-then-line-p : goal.returns-then-line-p
returns-then-line-p c = let a = c.args in rw (run_end Named a.line.now (a.p + 1) (omega arith), eqb_comm)

pub returns : goal.returns
returns c = let a = c.args in
    let e : c.run_end-end.result - (a.p + 1) ≡ run_at Named a.line.now (a.p + 1) = omega arith in
    rw e
