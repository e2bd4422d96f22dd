use mathlib.Core.Path.{sym}
use Rattle.grammar.specs.Codes.{line_up}
use Rattle.grammar.proofs.Rows.{above, no_line}
use Rattle.grammar.proofs.table.clock_rows.Goals as goal

pub returns-in-31 : goal.returns-in-31
unfolding line_up
returns-in-31 c = rw c.in-31.is

pub returns-in-32 : goal.returns-in-32
unfolding line_up
returns-in-32 c = rw c.in-32.is

pub returns-in-33 : goal.returns-in-33
unfolding line_up
returns-in-33 c = rw c.in-33.is

pub returns-in_default : goal.returns-in_default
returns-in_default c = let row = c.args.row in let r = c.in_default.in_default-own.rest in sym (no_line row (above row 33 (above row 32 (above row 31 c.requires r.0.0.1) r.0.1) r.1))
