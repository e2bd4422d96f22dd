use mathlib.Core.Path.{◌≡◌}
use Rattle.contents.specs.Content.{ahead}
use Rattle.form_lines.specs.Walk.{behind}
use Rattle.form_lines.proofs.skip.Given as goal

abbrev pub invariant-search : goal.invariant-search
invariant-search l = behind (ahead l.store l.links l.ahead) ≡ behind (ahead l.store l.links l.initial.ahead)

abbrev pub decreases-search : goal.decreases-search
decreases-search l = l.ahead.left
