-- "Fit data, for each permitted set of values"; paper 02, §10: "Unfit data is judged over all clock values as well as all variables."
-- Assumes nothing.
use Rattle.std.specs.Prelude.{ℕ, ◌^◌, ◌<◌, ◌≡◌, true, List}
use Rattle.kinds.specs.declared.Kind.{Kind}
use Rattle.kinds.specs.Fit.{fit}
use Rattle.elements.specs.declared.Element.{Element}
use Rattle.declarations.specs.declared.Declared.{Declared}
use Rattle.declarations.specs.Declarations.{length_at, side_at, width_at}
use Rattle.calendar.specs.Clock.{legal_clock}
use Rattle.padding.specs.Padding.{fits}
use Rattle.summary.specs.Data.{Values, assembled}

-- every variable holds a value that fits its declaration, every counter a number of its width, independently; one that is not declared
-- has length or width 0. A variable has one value however often it is named. The clock is any date and time
pub record Permitted (d : Declared) (v : Values) : Type 0 where
  pub variables : (k : ℕ) → fits (side_at d k) (length_at d k) (v.variable k) ≡ true
  pub counters : (k : ℕ) → v.counter k < 10 ^ width_at d k
  pub clock : legal_clock v.clock ≡ true

-- whatever is entered, and whenever, the data is fit for the kind
abbrev pub AlwaysFit : List ℕ → Declared → List Element → Kind → Type 0
AlwaysFit line d es k = (v : Values) → Permitted d v → fit k (assembled line d v es) ≡ true
