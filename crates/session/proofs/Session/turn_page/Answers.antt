use borrow.Author.Tests.{eq-eqb, ne_eqb}
use Rattle.session.proofs.Session.turn_page.Goals as goal

pub returns-then-turn-eq1 : goal.returns-then-turn-eq1
returns-then-turn-eq1 c = rw (eq-eqb _ _ c.if-turn-eq1.true) c.turn.ensures

pub returns-else-turn-eq1 : goal.returns-else-turn-eq1
returns-else-turn-eq1 c = rw (ne_eqb _ _ c.if-turn-eq1.false)
