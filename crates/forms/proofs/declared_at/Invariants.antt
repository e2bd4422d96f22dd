use mathlib.Core.Path.{◌≡◌}
use Rattle.contents.specs.Content.{content}
use Rattle.forms.specs.Form.{declared_of}
use Rattle.forms.specs.Walk.{walk_declared}
use Rattle.forms.proofs.declared_at.Given as goal

abbrev pub invariant-loop-w : goal.invariant-loop-w
invariant-loop-w l = walk_declared l.store l.links l.w ≡ declared_of (content l.store l.links l.directory l.i)

abbrev pub decreases-loop-w : goal.decreases-loop-w
decreases-loop-w l = l.w.place.left
