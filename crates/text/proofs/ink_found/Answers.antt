use mathlib.Core.Path.{◌≡◌, refl, ap, ◌∙◌}
use Prim.Native.Nat.{ℕ, ◌*◌}
use native.Mathlib.Omega.{arith}
use lib.ListN.{length, get_or}
use Rattle.text.specs.Text.{along}
use Rattle.font.proofs.Passes.{byte-times, places-rows}
use Rattle.bitmaps.proofs.Bitmaps.{next-times}
use Rattle.text.proofs.Cells.{drawn_to, glyphs-start, glyphs-next}
use Rattle.std.proofs.Common.{rules}
use Rattle.text.proofs.ink_found.Goals as goal

pub overflow_mul-step : goal.overflow_mul-step
overflow_mul-step c = record {
  fits = omega (
    arith,
    byte-times c.cell_width-wide.result c.args.scale.h
        6 c.cell_width-wide.ensures.1 (omega arith),
  );
}

pub loop-b-init : goal.loop-b-init
loop-b-init c = let a = c.args in (
  search rules,
  search rules,
  glyphs-start a.ink a.s a.font.now a.scale.h a.scale.v a.text.now a.page.now
      (λ j. omega (arith, c.type_inv.page j)),
  refl,
)

pub overflow_cast-b : goal.overflow_cast-b
overflow_cast-b c = omega (arith, c.type_inv.text c.loop-b.b-index)

pub offset_bounds-places-b : goal.offset_bounds-places-b
offset_bounds-places-b c = omega (arith, c.type_inv.text c.loop-b.b-index)

pub bounds-places-b : goal.bounds-places-b
bounds-places-b c = omega (arith, c.type_inv.text c.loop-b.b-index, c.requires.2.all)

pub overflow_add-u : goal.overflow_add-u
overflow_add-u c = omega (
  arith,
  byte-times c.cell_width-wide.result c.args.scale.h 6 c.cell_width-wide.ensures.1
      c.requires.0,
)

pub loop-b-preserved : goal.loop-b-preserved
loop-b-preserved c = let a = c.args in
    let small = byte-times c.cell_width-wide.result a.scale.h 6 c.cell_width-wide.ensures.1 c.requires.0 in (
      omega (arith, next-times c.loop-b.b-index (along a.font.now a.scale.h), ap (λ (m : ℕ). m * a.scale.h) c.cell_width-wide.ensures.0),
      omega arith,
      glyphs-next a.ink a.s a.font.now a.scale.h a.scale.v a.text.now a.page.now
          c.loop-b.b-index c.loop-b.u c.cell_width-wide.result c.cell_height-high.result c.row_bytes-stride.result _
          c.loop-b.page c.ink_bitmap.new.page c.loop-b.invariant.2 c.ink_bitmap.ensures c.loop-b.invariant.0
          c.cell_width-wide.ensures.0 c.cell_height-high.ensures.0 c.row_bytes-stride.ensures.0
          (places-rows a.font.now a.places.now c.requires.2 (get_or a.text.now c.loop-b.b-index 0) _
          (omega (arith, c.type_inv.text c.loop-b.b-index)) c.rows_at.ensures),
      omega (arith, c.ink_bitmap.auto.page),
    )

pub returns : goal.returns
returns c = let a = c.args in
    let l = c.loop-b in
    let e : l.b-index ≡ length a.text.now = omega arith in
    l.invariant.2 ∙ ap (drawn_to a.ink a.s a.font.now a.scale.h a.scale.v a.text.now a.page.now) e
