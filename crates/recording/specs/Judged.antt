-- "A recorded line is checked and kept": what recording answers for an item, after the declarations of the lines before it, and what is
-- declared after it.
-- Assumes nothing.
use Rattle.std.specs.Prelude.{ℕ, Bool, true, false, cond, List, Result, Ok, Err, is_some}
use Rattle.kinds.specs.declared.Kind.{Kind}
use Rattle.kinds.specs.declared.Kind.TheVariants.{Shown}
use Rattle.declarations.specs.declared.Declared.{Declared}
use Rattle.fitness.specs.DataFault.{DataFault}
use Rattle.fitness.specs.DataFaultVariants.{Undeclared as NotDeclared, Past as Reaches}
use Rattle.declarations.specs.Declarations.{variable_declared, counter_declared, with_variable, with_counter, formatted}
use Rattle.fitness.specs.Elements.{elements}
use Rattle.fitness.specs.Answers.{data_answer}
use Rattle.fitness.specs.Summary.{judged as fit_always}
use Rattle.finding.specs.Find.{titled_at}
use Rattle.parts.specs.Names.{packed_of}
use Rattle.grammar.specs.Named.{DECLARED-AT}
use Rattle.grammar.specs.declared.Item.{Item}
use Rattle.grammar.specs.declared.Item.TheVariants.{Origin, Variable, Counter, Text, Bars, Box, Frame, Slant, Picture, Format}
use Rattle.recording.specs.declared.Refusal.{Refusal}
use Rattle.recording.specs.declared.Refusal.TheVariants.{Again, Undeclared, Past, Unfit}

-- [13] "variable or counter not declared", [14] "a modifier reaches past the declared length", [15] "unfit data", in the table's order
-- of data from `at` on. 13 and 14 point to the leftmost such element, 15 to the first byte of the data
abbrev pub of_data : ℕ → Result Unit DataFault → Bool → Result Unit Refusal
of_data at (Err (NotDeclared p)) fit = Err (Undeclared p)
of_data at (Err (Reaches p)) fit = Err (Past p)
of_data at (Ok u) fit = cond fit (Ok tt) (Err (Unfit at))

-- the data from a place of a line on, for a kind
abbrev pub judged_data : Declared → List ℕ → ℕ → Kind → Result Unit Refusal
judged_data d line at kind = of_data at (data_answer d (elements line at)) (fit_always line d (elements line at) kind)

-- [12] "declared before in this form": V and C numbers are separate; it points to the number. An item that neither declares nor shows data is taken
unfoldable pub judged : Declared → List ℕ → Item → Result Unit Refusal
judged d line (Origin o) = Ok tt
judged d line (Variable v) = cond (variable_declared d v.n) (Err (Again DECLARED-AT)) (Ok tt)
judged d line (Counter c) = cond (counter_declared d c.n) (Err (Again DECLARED-AT)) (Ok tt)
judged d line (Text t) = judged_data d line t.at Shown
judged d line (Bars b) = judged_data d line b.at b.kind
judged d line (Box r) = Ok tt
judged d line (Frame f) = Ok tt
judged d line (Slant l) = Ok tt
judged d line (Picture p) = Ok tt
judged d line (Format f) = Ok tt

-- what is declared after an item, and the formats in force: "TD and TT may be recorded and then hold for the rest of that label" (paper 02, §10)
unfoldable pub declares : Declared → Item → Declared
declares d (Origin o) = d
declares d (Variable v) = with_variable d v.n v.m v.j
declares d (Counter c) = with_counter d c.n c.w c.minus c.step
declares d (Text t) = d
declares d (Bars b) = d
declares d (Box r) = d
declares d (Frame f) = d
declares d (Slant l) = d
declares d (Picture p) = d
declares d (Format f) = formatted d f.stamp f.format

-- "otherwise all but V, C and FE": an item that has a place in a form alone
unfoldable pub declaration : Item → Bool
declaration (Origin o) = false
declaration (Variable v) = true
declaration (Counter c) = true
declaration (Text t) = false
declaration (Bars b) = false
declaration (Box r) = false
declaration (Frame f) = false
declaration (Slant l) = false
declaration (Picture p) = false
declaration (Format f) = false

-- recording takes it
abbrev pub is_taken : Result Unit Refusal → Bool
is_taken (Ok u) = true
is_taken (Err refusal) = false

-- ---- its picture

-- [11] "name not found", of GG: the picture that an item draws is stored; what draws none asks for none
unfoldable pub has_picture : List ℕ → List ℕ → Item → Bool
has_picture directory line (Origin o) = true
has_picture directory line (Variable v) = true
has_picture directory line (Counter c) = true
has_picture directory line (Text t) = true
has_picture directory line (Bars b) = true
has_picture directory line (Box r) = true
has_picture directory line (Frame f) = true
has_picture directory line (Slant l) = true
has_picture directory line (Format f) = true
has_picture directory line (Picture p) = is_some (titled_at directory true (packed_of line p.at p.length))
