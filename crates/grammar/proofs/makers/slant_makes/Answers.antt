use mathlib.Core.Path.{◌≡◌}
use native.Mathlib.Omega.{arith}
use Rattle.grammar.proofs.Rows.{above}
use Rattle.grammar.specs.Forms.{in_order}
use Rattle.grammar.proofs.makers.slant_makes.Goals as goal

pub returns-in-28 : goal.returns-in-28
unfolding in_order
returns-in-28 c = λ p s. rw c.in-28.is c.slant.ensures

pub returns-in-29 : goal.returns-in-29
unfolding in_order
returns-in-29 c = λ p s. rw c.in-29.is c.slant-in-29.ensures

pub returns-in_default : goal.returns-in_default
unfolding in_order
returns-in_default c = let row = c.args.row in let r = c.in_default.in_default-own.rest in let u = c.requires in let h = above row 29 (above row 28 u.0 r.0.1) r.1 in let q : row ≡ 30 = omega arith in λ p s. rw q c.slant-in_default.ensures
