use mathlib.Core.Path.{◌≡◌}
use Rattle.contents.specs.Content.{content}
use Rattle.forms.specs.Form.{pictures_stored}
use Rattle.forms.specs.Walk.{walk_has}
use Rattle.forms.proofs.pictures_stored.Given as goal

abbrev pub invariant-loop-place : goal.invariant-loop-place
invariant-loop-place l = walk_has l.store l.links l.directory l.place ≡ pictures_stored l.directory (content l.store l.links l.directory l.i)

abbrev pub decreases-loop-place : goal.decreases-loop-place
decreases-loop-place l = l.place.left
