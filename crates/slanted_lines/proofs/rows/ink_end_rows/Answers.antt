use mathlib.Core.Path.{◌≡◌}
use native.Mathlib.Omega.{arith}
use Rattle.slanted_lines.specs.Code.{near_line}
use Rattle.slanted_lines.proofs.Parts.{part_none, then-below}
use Rattle.std.proofs.Common.{rules}
use Rattle.slanted_lines.proofs.rows.ink_end_rows.Goals as goal

pub loop-y-init : goal.loop-y-init
loop-y-init c = let a = c.args in
    let p = a.page.now in (
      search rules,
      search rules,
      part_none a.ink (near_line a.l) p p _ _ _ _ (λ j. omega (arith, c.type_inv.page j)) (λ x y h. omega arith),
      search rules,
    )

pub loop-y-preserved : goal.loop-y-preserved
loop-y-preserved c = let w = c in
    let v = w in
    let a = v.args in (
      search rules,
      search rules,
      then-below a.ink (near_line a.l) a.page.now v.loop-y.page w.ink_end_row.new.page _ _ _ _ _ (omega arith) (omega arith)
          v.loop-y.invariant.2 w.ink_end_row.ensures,
      omega (arith, w.ink_end_row.auto.page),
    )

pub returns : goal.returns
returns c = let v = c in
    let e : v.loop-y.y ≡ v.args.y1 = omega arith in
    rw e at v.loop-y.invariant.2
