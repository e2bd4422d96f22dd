use borrow.Author.Tests.{eq-eqb, ne_eqb}
use Rattle.session.proofs.Session.counted.Goals as goal

pub returns-then-s-eq0 : goal.returns-then-s-eq0
returns-then-s-eq0 c = rw (eq-eqb _ 0 c.if-s-eq0.true)

pub returns-then-s : goal.returns-then-s
returns-then-s c = rw (ne_eqb _ 0 c.if-s-eq0.false, eq-eqb _ 65535 c.if-s.true)

pub returns : goal.returns
returns c = rw (ne_eqb _ 0 c.if-s-eq0.false, ne_eqb _ 65535 c.if-s.false)
