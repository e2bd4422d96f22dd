use mathlib.Core.Path.{refl, sym, ◌∙◌}
use native.Mathlib.Omega.{arith}
use Rattle.symbols.specs.Elements as Elements
use Rattle.symbols.proofs.elements.Goals as goal

pub returns-then-fits : goal.returns-then-fits
unfolding Elements.elements
returns-then-fits c = rw (sym c.fits.ensures ∙ c.if-fits.true) c.fill.ensures

pub returns : goal.returns
unfolding Elements.elements
returns c = rw (sym c.fits.ensures ∙ c.if-fits.false) (record { next = refl; written = refl }, omega arith)
