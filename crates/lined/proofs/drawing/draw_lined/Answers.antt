use mathlib.Core.Path.{◌≡◌, sym, ◌∙◌}
use mathlib.Core.Bool.{Bool, true, ◌&&◌}
use mathlib.Core.List.{List}
use Prim.Native.Nat.{ℕ}
use native.Mathlib.Omega.{arith}
use Rattle.ground.proofs.Tests.{and-true}
use Rattle.kinds.specs.declared.Kind.{Kind}
use Rattle.kinds.specs.Fit.{fit}
use Rattle.lined.specs.Lined.{lined_drawn}
use Rattle.bars.specs.Drawing.{in_limits}
use Rattle.bars.proofs.Limits.{limits}
use Rattle.lined.proofs.Stacked.{lined-drawn}
use Rattle.lined.proofs.drawing.draw_lined.Goals as goal

-- what is asked before anything is drawn
ready : (e f g : ℕ) (k : Kind) (s : List ℕ) {a b t : Bool} → a ≡ in_limits e f g → b ≡ fit k s → t ≡ (a && b) → t ≡ true
    → (in_limits e f g ≡ true) × (fit k s ≡ true)
ready e f g k s h i j l = and-true _ _ (sym (j ∙ (λ n. h n && i n)) ∙ l)

pub overflow_cast-by : goal.overflow_cast-by
overflow_cast-by c = let a = c.args in let l = limits a.b.e a.b.f a.b.g (ready a.b.e a.b.f a.b.g a.b.kind a.bytes.now c.in_limits.ensures c.fits.ensures c.both.ensures c.if-both.true).0 in omega arith

pub overflow_cast-by-then-both : goal.overflow_cast-by-then-both
overflow_cast-by-then-both c = let a = c.args in let l = limits a.b.e a.b.f a.b.g (ready a.b.e a.b.f a.b.g a.b.kind a.bytes.now c.in_limits.ensures c.fits.ensures c.both.ensures c.if-both.true).0 in omega arith

pub breadth-lower-requires : goal.breadth-lower-requires
breadth-lower-requires c = (let a = c.args in ready a.b.e a.b.f a.b.g a.b.kind a.bytes.now c.in_limits.ensures c.fits.ensures c.both.ensures c.if-both.true).1

pub draw_bars-requires : goal.draw_bars-requires
draw_bars-requires c = let a = c.args in ready a.b.e a.b.f a.b.g a.b.kind a.bytes.now c.in_limits.ensures c.fits.ensures c.both.ensures c.if-both.true

pub draw_line-requires : goal.draw_line-requires
draw_line-requires c = (let a = c.args in ready a.b.e a.b.f a.b.g a.b.kind a.bytes.now c.in_limits.ensures c.fits.ensures c.both.ensures c.if-both.true).1

pub returns-then-both : goal.returns-then-both
returns-then-both c = let a = c.args in
    let z = ready a.b.e a.b.f a.b.g a.b.kind a.bytes.now c.in_limits.ensures c.fits.ensures c.both.ensures c.if-both.true in
    lined-drawn a.corner.size.width a.corner.size.length a.corner.x a.corner.y a.corner.r a.b.kind a.b.e a.b.f a.b.g a.place a.font.now a.bytes.now a.page.now _ _ _ _ _ _ _ _
    z.0 z.1 c.breadth-upper.ensures.0 c.breadth-lower.ensures c.greatest-wide.ensures c.cell_height-high.ensures.0
    c.around-over.ensures c.around-below.ensures c.draw_bars.ensures c.draw_line.ensures

pub returns-else-both : goal.returns-else-both
unfolding lined_drawn
returns-else-both c = let z = c.both.ensures ∙ (λ i. c.in_limits.ensures i && c.fits.ensures i) in rw (sym z ∙ c.if-both.false)
