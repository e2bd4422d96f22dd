use mathlib.Core.Path.{◌≡◌}
use native.Mathlib.Omega.{arith}
use Rattle.grammar.specs.Codes.{line_up}
use Rattle.grammar.proofs.Rows.{above}
use Rattle.grammar.proofs.table.value_rows.Goals as goal

pub returns-in-21 : goal.returns-in-21
unfolding line_up
returns-in-21 c = rw c.in-21.is

pub returns-in-22 : goal.returns-in-22
unfolding line_up
returns-in-22 c = rw c.in-22.is

pub returns-in-23 : goal.returns-in-23
unfolding line_up
returns-in-23 c = rw c.in-23.is

pub returns-in-24 : goal.returns-in-24
unfolding line_up
returns-in-24 c = rw c.in-24.is

pub returns-in-25 : goal.returns-in-25
unfolding line_up
returns-in-25 c = rw c.in-25.is

pub returns-in-26 : goal.returns-in-26
unfolding line_up
returns-in-26 c = rw c.in-26.is

pub returns-in_default : goal.returns-in_default
unfolding line_up
returns-in_default c = let row = c.args.row in let r = c.in_default.in_default-own.rest in let u = c.requires in let h = above row 26 (above row 25 (above row 24 (above row 23 (above row 22 (above row 21 u.0 r.0.0.0.0.0.1) r.0.0.0.0.1) r.0.0.0.1) r.0.0.1) r.0.1) r.1 in let q : row ≡ 27 = omega arith in rw q
