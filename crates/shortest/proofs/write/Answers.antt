use mathlib.Core.Path.{sym, ◌∙◌}
use Rattle.shortest.proofs.Ours.{ours-fit, ours-unfit}
use Rattle.std.proofs.Common.{rules}
use Rattle.shortest.proofs.write.Goals as goal

pub returns-then-fits : goal.returns-then-fits
returns-then-fits c = rw (ours-fit _ (sym c.fits.ensures ∙ c.if-fits.true)) c.start.ensures

pub returns : goal.returns
returns c = rw (ours-unfit _ (sym c.fits.ensures ∙ c.if-fits.false)) (search rules)
