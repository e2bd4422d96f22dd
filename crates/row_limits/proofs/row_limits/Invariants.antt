use mathlib.Core.Path.{◌≡◌}
use lib.ListN.{drop}
use Rattle.grammar.specs.Forms.{row_of, bounds_of}
use Rattle.row_limits.specs.Limits.{limits_from}
use Rattle.row_limits.proofs.row_limits.Given as goal

abbrev pub invariant-loop-i : goal.invariant-loop-i
invariant-loop-i l = limits_from (drop l.i (row_of l.row).fields) (drop l.i (bounds_of l.row l.rows)) l.line l.before (drop l.i l.vs) (drop l.i l.ps) ≡ limits_from (row_of l.row).fields (bounds_of l.row l.rows) l.line 0 l.vs l.ps
