use mathlib.Core.Path.{◌≡◌}
use lib.ListN.{drop}
use Rattle.grammar.specs.Forms.{row_of}
use Rattle.row_fields.proofs.Rows.{filled}
use Rattle.row_fields.proofs.read_fields.Given as goal

abbrev pub invariant-loop-i : goal.invariant-loop-i
invariant-loop-i l = filled (drop l.i (row_of l.row).fields) l.line l.at l.i l.vs l.ps ≡ filled (row_of l.row).fields l.line 0 0 l.initial.vs l.initial.ps
