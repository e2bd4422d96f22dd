use mathlib.Core.Path.{sym, ◌∙◌}
use Rattle.form_lines.proofs.Walking.{line_read, walk-less}
use Rattle.forms.proofs.Walking.{walk-has, walk-lacks}
use Rattle.std.proofs.Common.{rules}
use Rattle.forms.proofs.look_next.Goals as goal

pub returns-then-not-has_line : goal.returns-then-not-has_line
returns-then-not-has_line c = let n = c.next_line-next in
    let l = c.front.ensures ∙ line_read _ _ _ _ _ _ n.ensures.0 n.ensures.1.0 (search rules) in
    walk-lacks _ _ _ _ _ _ _ _ _ c.requires l n.ensures.1.1 _ (sym c.has_line.ensures ∙ c.if-not-has_line.true)

pub returns : goal.returns
returns c = let n = c.next_line-next in
    let l = c.front.ensures ∙ line_read _ _ _ _ _ _ n.ensures.0 n.ensures.1.0 (search rules) in
    (walk-has _ _ _ _ _ _ _ _ _ c.requires l n.ensures.1.1 _ (sym c.has_line.ensures ∙ c.if-not-has_line.false), walk-less _ _ _ _ _ _ _ _ c.requires n.ensures.1.1)
