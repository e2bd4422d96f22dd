use Rattle.grammar.proofs.Rows.{above, no_row}
use Rattle.grammar.specs.Forms.{in_order}
use Rattle.grammar.proofs.makers.clock_makes.Goals as goal

pub returns-in-31 : goal.returns-in-31
returns-in-31 c = λ p s. rw c.in-31.is (c.clock.ensures p s)

pub returns-in-33 : goal.returns-in-33
unfolding in_order
returns-in-33 c = λ p s. rw c.in-33.is c.format-in-33.ensures

pub returns-in_default : goal.returns-in_default
returns-in_default c = let row = c.args.row in let r = c.in_default.in_default-own.rest in let h = above row 33 (above row 32 (above row 31 c.requires r.0.0.1) r.0.1) r.1 in λ p s. rw (no_row row h)
