-- "The lowest number that applies is given": 13 and 14 before 15, unfit data.
-- Assumes nothing.
use Rattle.std.specs.Prelude.{ℕ, Bool, true, false, List, Result, Ok, Err}
use Rattle.kinds.specs.declared.Kind.{Kind}
use Rattle.elements.specs.declared.Element.{Element}
use Rattle.declarations.specs.declared.Declared.{Declared}
use Rattle.reach.specs.declared.DataFault.{DataFault}
use Rattle.reach.specs.declared.DataFault.TheVariants.{Undeclared as NotDeclared, Past as Reaches}
use Rattle.fitness.specs.declared.NotFit.{NotFit}
use Rattle.fitness.specs.declared.NotFit.TheVariants.{Undeclared, Past, Unfit}
use Rattle.reach.specs.Answers.{data_answer}
use Rattle.summary.specs.Summary.{judged}

-- 13 and 14 stay what they are
abbrev pub of_fault : DataFault → NotFit
of_fault (NotDeclared p) = Undeclared p
of_fault (Reaches p) = Past p

-- [15] "unfit data", where neither 13 nor 14 applies
abbrev pub with_fit : Result Unit DataFault → Bool → Result Unit NotFit
with_fit (Err fault) fit = Err (of_fault fault)
with_fit (Ok u) true = Ok tt
with_fit (Ok u) false = Err Unfit

-- the lowest of 13, 14 and 15, of a line's data for a kind
abbrev pub data_judged : Declared → List ℕ → List Element → Kind → Result Unit NotFit
data_judged d line es kind = with_fit (data_answer d es) (judged line d es kind)
