use native.Mathlib.Omega.{arith}
use mathlib.Core.Path.{◌≡◌}
use Rattle.grammar.proofs.Rows.{above}
use Rattle.grammar.specs.Forms.{in_order}
use Rattle.grammar.proofs.makers.kept_makes.Goals as goal

pub returns-in-12 : goal.returns-in-12
unfolding in_order
returns-in-12 c = rw (c.in-12.is, c.named_at-name.ensures)

pub returns-in-14 : goal.returns-in-14
unfolding in_order
returns-in-14 c = rw (c.in-14.is, c.named_at-name.ensures)

pub returns-in-15 : goal.returns-in-15
unfolding in_order
returns-in-15 c = rw (c.in-15.is, c.named_at-name.ensures)

pub returns-in-16 : goal.returns-in-16
unfolding in_order
returns-in-16 c = rw (c.in-16.is, c.named_at-name.ensures)

pub returns-in-19 : goal.returns-in-19
unfolding in_order
returns-in-19 c = rw (c.in-19.is, c.named_at-name.ensures)

pub returns-in_default : goal.returns-in_default
unfolding in_order
returns-in_default c = let row = c.args.row in let r = c.in_default.in_default-own.rest in let u = c.requires in let h = above row 19 (above row 18 (above row 17 (above row 16 (above row 15 (above row 14 (above row 13 (above row 12 c.requires.0 r.0.0.0.0.0.0.0.1) r.0.0.0.0.0.0.1) r.0.0.0.0.0.1) r.0.0.0.0.1) r.0.0.0.1) r.0.0.1) r.0.1) r.1 in let q : row ≡ 20 = omega arith in rw q
