use mathlib.Core.Path.{sym, ap, ◌∙◌}
use Rattle.store.specs.Entry.{of_kind}
use Rattle.fits.specs.Names.{in_use}
use Rattle.fits.proofs.names.is_user.Goals as goal

pub returns-then-is_of_kind : goal.returns-then-is_of_kind
unfolding in_use
returns-then-is_of_kind c = rw (ap (of_kind c.args.picture) (sym c.kind_at-k.ensures.0) ∙ sym c.is_of_kind.ensures ∙ c.if-is_of_kind.true, c.is_bearing.ensures)

pub returns : goal.returns
unfolding in_use
returns c = rw (ap (of_kind c.args.picture) (sym c.kind_at-k.ensures.0) ∙ sym c.is_of_kind.ensures ∙ c.if-is_of_kind.false)
