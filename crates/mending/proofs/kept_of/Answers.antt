use mathlib.Core.Path.{sym, ◌∙◌}
use borrow.Author.Tests.{eq-eqb, ne_eqb}
use Rattle.mending.proofs.kept_of.Goals as goal

pub returns-then-byte-eq-KEPT : goal.returns-then-byte-eq-KEPT
returns-then-byte-eq-KEPT c = rw (eq-eqb _ 1 (sym c.byte.ensures ∙ c.if-byte-eq-KEPT.true))

pub returns : goal.returns
returns c = rw (ne_eqb _ 1 (λ z. c.if-byte-eq-KEPT.false (c.byte.ensures ∙ z)))
