use mathlib.Core.Path.{◌∙◌}
use Rattle.form_lines.proofs.Walking.{line_read, walk-less}
use Rattle.forms.proofs.Walking.{walk-declared}
use Rattle.std.proofs.Common.{rules}
use Rattle.forms.proofs.declare_next.Goals as goal

pub returns : goal.returns
returns c = let n = c.next_line-next in let h = c.requires in let l = c.front.ensures ∙ line_read _ _ _ _ _ _ n.ensures.0 n.ensures.1.0 (search rules) in
    (walk-declared _ _ _ _ _ _ _ _ _ h l n.ensures.1.1 _ _ c.declare_line-declared.ensures, walk-less _ _ _ _ _ _ _ _ h n.ensures.1.1)
