use native.Mathlib.Omega.{arith}
use mathlib.Core.Path.{◌≡◌}
use Rattle.grammar.specs.Codes.{line_up}
use Rattle.grammar.proofs.Rows.{above}
use Rattle.grammar.proofs.table.page_rows.Goals as goal

pub returns-in-0 : goal.returns-in-0
unfolding line_up
returns-in-0 c = rw c.in-0.is

pub returns-in-1 : goal.returns-in-1
unfolding line_up
returns-in-1 c = rw c.in-1.is

pub returns-in-2 : goal.returns-in-2
unfolding line_up
returns-in-2 c = rw c.in-2.is

pub returns-in-3 : goal.returns-in-3
unfolding line_up
returns-in-3 c = rw c.in-3.is

pub returns-in_default : goal.returns-in_default
unfolding line_up
returns-in_default c = let row = c.args.row in let r = c.in_default.in_default-own.rest in let p = c.requires in let h = above row 3 (above row 2 (above row 1 (above row 0 (omega arith) r.0.0.0.1) r.0.0.1) r.0.1) r.1 in let k : row ≡ 4 = omega arith in rw k
