use lib.ListN.{drop}
use Rattle.grammar.specs.Forms.{row_of}
use Rattle.normal.specs.Written.{written_from}
use Rattle.writing.proofs.Writes.{Rest}
use Rattle.normal.proofs.put_row.Given as goal

abbrev pub invariant-loop-i : goal.invariant-loop-i
invariant-loop-i l = Rest l.initial.out 0 (written_from (row_of l.row).fields l.line l.vs l.ps) l.out l.place (written_from (drop l.i (row_of l.row).fields) l.line (drop l.i l.vs) (drop l.i l.ps))
