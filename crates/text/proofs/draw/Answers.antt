use mathlib.Core.Path.{sym, ◌∙◌}
use Prim.Native.Nat.{◌*◌}
use native.Mathlib.Omega.{arith}
use lib.ListN.{length}
use Rattle.font.proofs.Passes.{byte-times, text-times}
use Rattle.text.proofs.Lines.{drawable-says, text-none, text-drawn}
use Rattle.text.proofs.draw.Goals as goal

pub returns-then-not-drawable_ok : goal.returns-then-not-drawable_ok
returns-then-not-drawable_ok c = let a = c.args in
    text-none a.corner.size.width a.corner.size.length a.corner.x a.corner.y a.corner.r a.scale.h a.scale.v a.reverse a.font.now a.text.now a.page.now
    (sym c.drawable_ok.ensures ∙ c.if-not-drawable_ok.true)

pub overflow_mul-s : goal.overflow_mul-s
overflow_mul-s c = let a = c.args in
    let d = drawable-says a.scale.h a.scale.v a.text.now (sym c.drawable_ok.ensures ∙ c.if-not-drawable_ok.false) in
    record { fits = omega (arith, byte-times c.cell_width.result a.scale.h 6 c.cell_width.ensures.1 d.wide) }

pub overflow_mul-s-2 : goal.overflow_mul-s-2
overflow_mul-s-2 c = let a = c.args in
    let d = drawable-says a.scale.h a.scale.v a.text.now (sym c.drawable_ok.ensures ∙ c.if-not-drawable_ok.false) in
    let small = byte-times c.cell_width.result a.scale.h 6 c.cell_width.ensures.1 d.wide in
    record { fits = omega (arith, text-times (length a.text.now) (c.cell_width.result * a.scale.h) 1530 d.short small) }

pub overflow_mul-s-3 : goal.overflow_mul-s-3
overflow_mul-s-3 c = let a = c.args in
    let d = drawable-says a.scale.h a.scale.v a.text.now (sym c.drawable_ok.ensures ∙ c.if-not-drawable_ok.false) in
    record { fits = omega (arith, byte-times c.cell_height.result a.scale.v 9 c.cell_height.ensures.1 d.high) }

pub ink_text-requires : goal.ink_text-requires
ink_text-requires c = let a = c.args in
    let d = drawable-says a.scale.h a.scale.v a.text.now
    (sym c.drawable_ok.ensures ∙ c.if-not-drawable_ok.false) in
    (d.wide, d.short)

pub returns : goal.returns
returns c = let a = c.args in
    text-drawn a.corner.size.width a.corner.size.length a.corner.x a.corner.y a.corner.r a.scale.h a.scale.v a.reverse a.font.now a.text.now a.page.now _
    c.ink_text.new.page
    (sym c.drawable_ok.ensures ∙ c.if-not-drawable_ok.false)
    (λ i. record {
      corner = a.corner;
      wide = length a.text.now * (c.cell_width.ensures.0 i * a.scale.h);
      high = c.cell_height.ensures.0 i * a.scale.v;
    })
    c.ink_text.ensures
