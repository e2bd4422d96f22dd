use mathlib.Core.Path.{sym, ap, ◌∙◌}
use mathlib.Core.Bool.{false}
use mathlib.Core.List.{List}
use Prim.Native.Nat.{ℕ}
use Rattle.text.specs.Text.{text_drawn}
use Rattle.lined.proofs.Showing.{line-checked, line_plain, checks-twelve}
use Rattle.lined.proofs.line.draw.Goals as goal

pub draw_checked-requires : goal.draw_checked-requires
draw_checked-requires c = checks-twelve c.args.kind c.args.s.now (sym c.checks.ensures ∙ c.if-checks.true) c.requires

pub returns-then-checks : goal.returns-then-checks
returns-then-checks c = let a = c.args in
    c.draw_checked.ensures
    ∙ ap (λ (text : List ℕ). text_drawn a.corner.size.width a.corner.size.length a.corner.x a.corner.y a.corner.r 1 1 false a.font.now text a.page.now)
    (sym (line-checked a.kind a.s.now (sym c.checks.ensures ∙ c.if-checks.true)))

pub returns-else-checks : goal.returns-else-checks
returns-else-checks c = let a = c.args in
    c.draw.ensures
    ∙ ap (λ (text : List ℕ). text_drawn a.corner.size.width a.corner.size.length a.corner.x a.corner.y a.corner.r 1 1 false a.font.now text a.page.now)
    (sym (line_plain a.kind a.s.now (sym c.checks.ensures ∙ c.if-checks.false)))
