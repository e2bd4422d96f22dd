use native.Mathlib.Omega.{arith}
use mathlib.Core.Path.{◌≡◌}
use Rattle.grammar.specs.Codes.{line_up}
use Rattle.grammar.proofs.Rows.{above}
use Rattle.grammar.proofs.table.kept_rows.Goals as goal

pub returns-in-12 : goal.returns-in-12
unfolding line_up
returns-in-12 c = rw c.in-12.is

pub returns-in-13 : goal.returns-in-13
unfolding line_up
returns-in-13 c = rw c.in-13.is

pub returns-in-14 : goal.returns-in-14
unfolding line_up
returns-in-14 c = rw c.in-14.is

pub returns-in-15 : goal.returns-in-15
unfolding line_up
returns-in-15 c = rw c.in-15.is

pub returns-in-16 : goal.returns-in-16
unfolding line_up
returns-in-16 c = rw c.in-16.is

pub returns-in-17 : goal.returns-in-17
unfolding line_up
returns-in-17 c = rw c.in-17.is

pub returns-in-18 : goal.returns-in-18
unfolding line_up
returns-in-18 c = rw c.in-18.is

pub returns-in-19 : goal.returns-in-19
unfolding line_up
returns-in-19 c = rw c.in-19.is

pub returns-in_default : goal.returns-in_default
unfolding line_up
returns-in_default c = let row = c.args.row in let r = c.in_default.in_default-own.rest in let p = c.requires in let h = above row 19 (above row 18 (above row 17 (above row 16 (above row 15 (above row 14 (above row 13 (above row 12 c.requires.0 r.0.0.0.0.0.0.0.1) r.0.0.0.0.0.0.1) r.0.0.0.0.0.1) r.0.0.0.0.1) r.0.0.0.1) r.0.0.1) r.0.1) r.1 in let k : row ≡ 20 = omega arith in rw k
