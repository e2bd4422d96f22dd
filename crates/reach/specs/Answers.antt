-- Answers 13 and 14 for a line's data: "variable or counter not declared", "a modifier reaches past the declared length".
-- Assumes nothing.
use Rattle.std.specs.Prelude.{ℕ, ◌+◌, ◌-◌, ◌≡◌, Bool, true, false, cond, ◌||◌, not, List, [], ◌∷◌, ◌++◌, ltb, Result, Ok, Err}
use Rattle.elements.specs.declared.Part.{Part}
use Rattle.elements.specs.declared.Part.TheVariants.{Whole, First, Last, Middle}
use Rattle.elements.specs.declared.What.{What}
use Rattle.elements.specs.declared.What.TheVariants.{Text, Variable, Counter, Stamped}
use Rattle.elements.specs.declared.Element.{Element}
use Rattle.declarations.specs.declared.Declared.{Declared}
use Rattle.declarations.specs.Declarations.{length_at, width_at, variable_declared, counter_declared}
use Rattle.reach.specs.declared.DataFault.{DataFault}
use Rattle.reach.specs.declared.DataFault.TheVariants.{Undeclared, Past}

-- the last place that a modifier takes
abbrev pub reach : Part → ℕ
reach Whole = 0
reach (First n) = n
reach (Last n) = n
reach (Middle p n) = p + n - 1

-- it lies past a length: n > m, or p + n - 1 > m
unfoldable pub reaches_past : Part → ℕ → Bool
reaches_past p m = ltb m (reach p)

-- [13] "variable or counter not declared"
unfoldable pub undeclared_by : Declared → What → Bool
undeclared_by d Text = false
undeclared_by d (Variable k p) = not (variable_declared d k)
undeclared_by d (Counter k p) = not (counter_declared d k)
undeclared_by d (Stamped st) = false

-- [14] "a modifier reaches past the declared length"; a counter's length is its width
unfoldable pub past_by : Declared → What → Bool
past_by d Text = false
past_by d (Variable k p) = reaches_past p (length_at d k)
past_by d (Counter k p) = reaches_past p (width_at d k)
past_by d (Stamped st) = false

-- the test holds of an element's kind, anywhere in the data
abbrev pub some_of : (What → Bool) → List Element → Bool
some_of q [] = false
some_of q (e ∷ es) = q e.what || some_of q es

-- paper 02, §2: "the leftmost such": the place of the first element of whose kind the test holds
abbrev pub leftmost : (What → Bool) → List Element → ℕ
leftmost q [] = 0
leftmost q (e ∷ es) = cond (q e.what) e.at (leftmost q es)

-- what that place is: the test holds of an element that stands in the row there, and of none before it
pub record Leftmost (q : What → Bool) (es : List Element) (place : ℕ) : Type 0 where
  pub before : List Element
  pub found : Element
  pub behind : List Element
  pub stands : es ≡ before ++ (found ∷ behind)
  pub passed : some_of q before ≡ false
  pub holds : q found.what ≡ true
  pub points : place ≡ found.at

-- [14] of a row of elements, at the leftmost that reaches past
abbrev pub past_of : Declared → List Element → Result Unit DataFault
past_of d es = cond (some_of (past_by d) es) (Err (Past (leftmost (past_by d) es))) (Ok tt)

-- what elements before gave, or else what these give
abbrev pub or_else : Result Unit DataFault → Result Unit DataFault → Result Unit DataFault
or_else (Ok u) a = a
or_else (Err fault) a = Err fault

-- "The lowest number that applies is given"; before is what the elements before gave of 14
abbrev pub answered : Declared → Result Unit DataFault → List Element → Result Unit DataFault
answered d before es = cond (some_of (undeclared_by d) es) (Err (Undeclared (leftmost (undeclared_by d) es))) (or_else before (past_of d es))

unfoldable pub data_answer : Declared → List Element → Result Unit DataFault
data_answer d es = answered d (Ok tt) es
