use mathlib.Core.Path.{sym, ap, ◌∙◌}
use borrow.Author.Tests.{eq-eqb, ne_eqb}
use Rattle.store.specs.Entry.{of_kind}
use Rattle.finding.specs.Bytes.{titled_by}
use Rattle.finding.proofs.is_titled.Goals as goal

pub returns-then-eight-w : goal.returns-then-eight-w
unfolding titled_by
returns-then-eight-w c = rw (ne_eqb _ _ (λ z. c.if-eight-w.true (c.eight.ensures.0 ∙ z)))

pub returns : goal.returns
unfolding titled_by
returns c = rw (eq-eqb _ _ (sym c.eight.ensures.0 ∙ c.if-eight-w.false)) (c.is_of_kind.ensures ∙ ap (of_kind c.args.picture) c.kind_at-k.ensures.0)
