use mathlib.Core.Path.{refl, sym, ◌∙◌}
use native.Mathlib.Omega.{arith}
use Rattle.bars.specs.Drawing.{bars_drawn}
use Rattle.bars.proofs.Limits.{limits}
use Rattle.bars.proofs.Stroking.{fit-or-none}
use Rattle.bars.proofs.draw.Goals as goal

pub place-requires : goal.place-requires
place-requires c = let a = c.args in
    let l = limits a.b.e a.b.f a.b.g (sym c.in_limits.ensures ∙ c.if-in_limits.true) in
    (l.0, l.1, omega arith)

pub returns-then-in_limits : goal.returns-then-in_limits
unfolding bars_drawn
returns-then-in_limits c = let a = c.args in
    rw (sym c.in_limits.ensures ∙ c.if-in_limits.true)
    (fit-or-none a.corner.size.width a.corner.size.length a.corner.x a.corner.y a.corner.r a.b.g a.b.e a.b.f a.b.kind a.bytes.now a.page.now _ _ refl
    (λ j. omega (arith, c.slice_known-1.given j)) c.place.ensures)

pub returns-else-in_limits : goal.returns-else-in_limits
unfolding bars_drawn
returns-else-in_limits c = rw (sym c.in_limits.ensures ∙ c.if-in_limits.false)
