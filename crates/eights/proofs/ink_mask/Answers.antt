use Prim.Native.Nat.{◌+◌, ◌*◌}
use native.Mathlib.Omega.{arith}
use Rattle.dots.proofs.Pages.{ink-at}
use Rattle.eights.proofs.EightDots.{eights-none, eights-here, eights-other}
use Rattle.eights.proofs.ink_mask.Goals as goal

pub returns-then-i-ge-BYTES_A_ROW : goal.returns-then-i-ge-BYTES_A_ROW
returns-then-i-ge-BYTES_A_ROW c = let a = c.args in
    eights-none a.ink _ _ _ a.m a.page.now (λ j. omega (arith, c.type_inv.page j)) (λ x y s t h. omega arith)

pub returns : goal.returns
returns c = let a = c.args in
    ink-at a.ink _ a.page.now (a.y * 76 + a.i) a.m c.ink_dots.result (λ j. omega (arith, c.slice_known-2-1.given j)) (omega arith)
    c.ink_dots.ensures (eights-here a.i a.y a.m (omega arith)) (eights-other a.i a.y a.m (omega arith))
