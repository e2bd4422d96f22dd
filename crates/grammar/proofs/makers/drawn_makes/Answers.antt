use native.Mathlib.Omega.{arith}
use mathlib.Core.Path.{◌≡◌}
use Rattle.grammar.proofs.Rows.{above}
use Rattle.grammar.specs.Forms.{in_order}
use Rattle.grammar.proofs.makers.drawn_makes.Goals as goal

pub returns-in-6 : goal.returns-in-6
unfolding in_order
returns-in-6 c = λ s. rw c.in-6.is c.boxed-in-6.ensures

pub returns-in-7 : goal.returns-in-7
unfolding in_order
returns-in-7 c = λ s. rw c.in-7.is c.boxed-in-7.ensures

pub returns-in-8 : goal.returns-in-8
returns-in-8 c = λ s. rw c.in-8.is (c.frame.ensures c.args.p.now s)

pub returns-in-9 : goal.returns-in-9
returns-in-9 c = λ s. rw c.in-9.is (c.text.ensures s)

pub returns-in-10 : goal.returns-in-10
returns-in-10 c = λ s. rw c.in-10.is (c.bars.ensures s)

pub returns-in_default : goal.returns-in_default
returns-in_default c = let row = c.args.row in let r = c.in_default.in_default-own.rest in let u = c.requires in let h = above row 10 (above row 9 (above row 8 (above row 7 (above row 6 (above row 5 c.requires.0 r.0.0.0.0.0.1) r.0.0.0.0.1) r.0.0.0.1) r.0.0.1) r.0.1) r.1 in let q : row ≡ 11 = omega arith in λ s. rw q (c.picture.ensures s)
