use native.Mathlib.Omega.{arith}
use mathlib.Core.Path.{◌≡◌}
use Rattle.grammar.specs.Codes.{line_up}
use Rattle.grammar.proofs.Rows.{above}
use Rattle.grammar.proofs.table.drawn_rows.Goals as goal

pub returns-in-5 : goal.returns-in-5
unfolding line_up
returns-in-5 c = rw c.in-5.is

pub returns-in-6 : goal.returns-in-6
unfolding line_up
returns-in-6 c = rw c.in-6.is

pub returns-in-7 : goal.returns-in-7
unfolding line_up
returns-in-7 c = rw c.in-7.is

pub returns-in-8 : goal.returns-in-8
unfolding line_up
returns-in-8 c = rw c.in-8.is

pub returns-in-9 : goal.returns-in-9
unfolding line_up
returns-in-9 c = rw c.in-9.is

pub returns-in-10 : goal.returns-in-10
unfolding line_up
returns-in-10 c = rw c.in-10.is

pub returns-in_default : goal.returns-in_default
unfolding line_up
returns-in_default c = let row = c.args.row in let r = c.in_default.in_default-own.rest in let p = c.requires in let h = above row 10 (above row 9 (above row 8 (above row 7 (above row 6 (above row 5 c.requires.0 r.0.0.0.0.0.1) r.0.0.0.0.1) r.0.0.0.1) r.0.0.1) r.0.1) r.1 in let k : row ≡ 11 = omega arith in rw k
