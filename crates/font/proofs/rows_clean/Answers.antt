use mathlib.Core.Path.{◌≡◌, sym, ap, ◌∙◌}
use Prim.Native.Nat.{ℕ, ◌+◌, ◌-◌}
use native.Mathlib.Omega.{arith}
use Rattle.font.specs.Rules.{cell_height, rows_clean}
use Rattle.std.proofs.Common.{rules}
use Rattle.font.proofs.Passes.{rows_step, rows-stop, rows-done}
use Rattle.font.proofs.rows_clean.Goals as goal

pub loop-i-init : goal.loop-i-init
loop-i-init c = let end = c.cell_height-i-end in
    let all : end.result - 0 ≡ cell_height c.args.font.now = omega (arith, end.ensures.0) in
    (end.ensures.1, end.ensures.0, search rules, omega (arith, end.ensures.1), ap (λ (n : ℕ). rows_clean c.args.font.now n c.args.at) all)

pub returns-then-not-row_clean : goal.returns-then-not-row_clean
returns-then-not-row_clean c = let l = c.loop-i in
    rows-stop _ (c.cell_height-i-end.result - l._i) l.row (omega arith) (sym c.row_clean.ensures ∙ c.if-not-row_clean.true)
    ∙ l.invariant.4

pub loop-i-preserved : goal.loop-i-preserved
loop-i-preserved c = let l = c.loop-i in
    let n = c.cell_height-i-end.result in
    let less : n - (l._i + 1) ≡ n - l._i - 1 = omega arith in (
      l.invariant.0,
      l.invariant.1,
      omega arith,
      omega (arith, c.row_bytes-bytes.ensures.1),
      (λ j. rows_clean c.args.font.now (less j) (l.row + c.row_bytes-bytes.ensures.0 j))
          ∙ rows_step _ (n - l._i) l.row (omega arith) (sym c.row_clean.ensures ∙ c.if-not-row_clean.false)
          ∙ l.invariant.4,
    )

pub returns : goal.returns
returns c = let l = c.loop-i in rows-done _ (c.cell_height-i-end.result - l._i) l.row (omega arith) ∙ l.invariant.4
