use mathlib.Core.Path.{ap, ◌∙◌}
use mathlib.Core.Bool.{false}
use mathlib.Core.List.{List}
use Prim.Native.Nat.{ℕ, ◌+◌}
use native.Mathlib.Omega.{arith}
use lib.ListN.{set}
use Rattle.text.specs.Text.{text_drawn}
use Rattle.symbols.proofs.FillEan.{check-small}
use Rattle.lined.proofs.Showing.{line-stored}
use Rattle.lined.proofs.line.draw_checked.Goals as goal

pub overflow_add-digits : goal.overflow_add-digits
overflow_add-digits c = omega (arith, c.check_digit-c.ensures, check-small c.args.s.now)

pub returns : goal.returns
returns c = let a = c.args in
    c.draw.ensures
    ∙ ap (λ (text : List ℕ). text_drawn a.corner.size.width a.corner.size.length a.corner.x a.corner.y a.corner.r 1 1 false a.font.now text a.page.now)
    (ap (λ (l : List ℕ). set l 12 (48 + c.check_digit-c.result)) c.put.ensures
    ∙ line-stored a.s.now c.check_digit-c.result c.requires c.check_digit-c.ensures)
