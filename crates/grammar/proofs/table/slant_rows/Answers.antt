use native.Mathlib.Omega.{arith}
use mathlib.Core.Path.{◌≡◌}
use Rattle.grammar.specs.Codes.{line_up}
use Rattle.grammar.proofs.Rows.{above}
use Rattle.grammar.proofs.table.slant_rows.Goals as goal

pub returns-in-28 : goal.returns-in-28
unfolding line_up
returns-in-28 c = rw c.in-28.is

pub returns-in-29 : goal.returns-in-29
unfolding line_up
returns-in-29 c = rw c.in-29.is

pub returns-in_default : goal.returns-in_default
unfolding line_up
returns-in_default c = let row = c.args.row in let r = c.in_default.in_default-own.rest in let p = c.requires in let h = above row 29 (above row 28 p.0 r.0.1) r.1 in let k : row ≡ 30 = omega arith in rw k
