use mathlib.Core.Path.{◌≡◌}
use lib.ListN.{drop}
use Rattle.file_names.specs.Names.{last_slash}
use Rattle.file_names.proofs.folder_length.Given as goal

abbrev pub invariant-loop-i : goal.invariant-loop-i
invariant-loop-i l = last_slash l.i l.best (drop l.i l.path) ≡ last_slash 0 0 l.path
