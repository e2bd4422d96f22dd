use mathlib.Core.Path.{◌≡◌}
use Prim.Native.Nat.{◌*◌}
use native.Mathlib.Omega.{arith}
use Rattle.text.specs.Text.{along}
use Rattle.lined.proofs.Showing.{line-product}
use Rattle.lined.proofs.line.breadth.Goals as goal

pub overflow_mul-result : goal.overflow_mul-result
overflow_mul-result c = record { fits = omega (arith, line-product _ _ c.line_length.ensures.1 c.cell_width-cell.ensures.1) }

pub returns : goal.returns
returns c = let a = c.args in
    let cell : c.cell_width-cell.result ≡ along a.font.now 1 = omega (arith, c.cell_width-cell.ensures.0) in
    (λ i. c.line_length.ensures.0 i * cell i)
