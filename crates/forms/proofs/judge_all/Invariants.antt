use mathlib.Core.Path.{◌≡◌}
use lib.ListN.{length}
use Rattle.contents.specs.Content.{content}
use Rattle.forms.specs.Form.{form_ok}
use Rattle.forms.specs.Walk.{walk_ok}
use Rattle.forms.proofs.judge_all.Given as goal

abbrev pub invariant-loop-w : goal.invariant-loop-w
invariant-loop-w l = (length l.buffer ≡ 256) × (walk_ok l.store l.links l.w ≡ form_ok (content l.store l.links l.directory l.i))

abbrev pub decreases-loop-w : goal.decreases-loop-w
decreases-loop-w l = l.w.place.left
