-- R, V, C, A, B, LO, LE, LW, LS, LSE, LSW, X, GG, TD, TT: their rows of the table, and what they do outside a form.
-- Assumes nothing.
use Rattle.std.specs.Prelude.{ℕ, Bool, true, false, not, List, [], ◌∷◌, Result, Ok, Err}
use Rattle.declarations.specs.declared.Declared.{Declared}
use Rattle.declarations.specs.Declarations.{outside_forms, variable_declared, counter_declared}
use Rattle.kinds.specs.declared.Kind.{Kind}
use Rattle.kinds.specs.declared.Kind.TheVariants.{Shown}
use Rattle.elements.specs.Elements.{elements}
use Rattle.reach.specs.declared.DataFault.{DataFault}
use Rattle.reach.specs.declared.DataFault.TheVariants.{Undeclared as Unnamed, Past as TooFar}
use Rattle.fitness.specs.declared.NotFit.{NotFit}
use Rattle.fitness.specs.declared.NotFit.TheVariants.{Undeclared as NamesUndeclared, Past as GoesPast, Unfit as Unfits}
use Rattle.reach.specs.Answers.{undeclared_by, past_by, some_of, leftmost}
use Rattle.summary.specs.Summary.{judged as fit_always}
use Rattle.elements.specs.declared.What.{What}
use Rattle.grammar.specs.Named.{DECLARED-AT}
use Rattle.grammar.specs.declared.Item.{Item}
use Rattle.grammar.specs.declared.Item.TheVariants.{Origin, Variable, Counter, Text, Bars, Box, Frame, Slant, Picture, Format}
use Rattle.recording.specs.declared.Refusal.{Refusal}
use Rattle.recording.specs.declared.Refusal.TheVariants.{Again as Before, Undeclared as Unknown, Past as Reaches, Unfit as Wrong}
use Rattle.recording.specs.Judged.{has_picture}
use Rattle.item_drawing.specs.Draw.{setting, draws_item}
use Rattle.session.specs.declared.Session.{Session}
use Rattle.answers.specs.declared.Answer.{Answer}
use Rattle.answers.specs.declared.Answer.TheVariants.{Taken, Missing, Again, Undeclared, Past, Unfit}
use Rattle.answers.specs.Answers.{Row, row, answer_of}
use Rattle.session.specs.Session.{based, formatted, sixteen_bits}
use Rattle.formats.specs.Formats.{with_format}
use Rattle.lent.specs.Lent.{World}
use Rattle.results.specs.World.{State, state, with_background}
use Rattle.results.specs.Result.{Ran, ran_by}

-- ---- what rows 12 to 15 ask of an item, each for itself: none looks at another

-- the data that an item shows: from which place of its line on, and for what
pub data Shows : Type 0 where
  no_data : Shows
  data_at : ℕ → Kind → Shows

abbrev pub shown_by : Item → Shows
shown_by (Origin o) = no_data
shown_by (Variable v) = no_data
shown_by (Counter c) = no_data
shown_by (Text t) = data_at t.at Shown
shown_by (Bars b) = data_at b.at b.kind
shown_by (Box r) = no_data
shown_by (Frame f) = no_data
shown_by (Slant l) = no_data
shown_by (Picture p) = no_data
shown_by (Format f) = no_data

-- [12] "declared before in this form": V and C numbers are separate
unfoldable pub declared_before : Declared → Item → Bool
declared_before d (Origin o) = false
declared_before d (Variable v) = variable_declared d v.n
declared_before d (Counter c) = counter_declared d c.n
declared_before d (Text t) = false
declared_before d (Bars b) = false
declared_before d (Box r) = false
declared_before d (Frame f) = false
declared_before d (Slant l) = false
declared_before d (Picture p) = false
declared_before d (Format f) = false

-- [13] "variable or counter not declared"
unfoldable pub not_declared : Declared → List ℕ → Shows → Bool
not_declared d line no_data = false
not_declared d line (data_at at kind) = some_of (undeclared_by d) (elements line at)

-- [14] "a modifier reaches past the declared length". Of a variable that is not declared the length is 0, so that every modifier reaches past it
unfoldable pub reaches_past : Declared → List ℕ → Shows → Bool
reaches_past d line no_data = false
reaches_past d line (data_at at kind) = some_of (past_by d) (elements line at)

-- [15] "unfit data": some permitted values make it so. A variable that is not declared has length 0: it shows nothing
unfoldable pub unfit_data : Declared → List ℕ → Shows → Bool
unfit_data d line no_data = false
unfit_data d line (data_at at kind) = not (fit_always line d (elements line at) kind)

-- ---- where they point (paper 02, §2)

-- "the leftmost such" element of the data
abbrev pub leftmost_in : (What → Bool) → List ℕ → Shows → ℕ
leftmost_in q line no_data = 0
leftmost_in q line (data_at at kind) = leftmost q (elements line at)

-- "15 points to the data": to its first byte
abbrev pub data_place : Shows → ℕ
data_place no_data = 0
data_place (data_at at kind) = at

-- 12 points to the number of V or C
abbrev pub fit_rows : Declared → List ℕ → Item → List Row → List Row
fit_rows d line it rows =
    row (Again DECLARED-AT) (declared_before d it)
    ∷ row (Undeclared (leftmost_in (undeclared_by d) line (shown_by it))) (not_declared d line (shown_by it))
    ∷ row (Past (leftmost_in (past_by d) line (shown_by it))) (reaches_past d line (shown_by it))
    ∷ row (Unfit (data_place (shown_by it))) (unfit_data d line (shown_by it))
    ∷ rows

-- an item, by the picture it draws [11] and these; then what comes after
abbrev pub item_rows : Declared → List ℕ → List ℕ → Item → List Row → List Row
item_rows d directory line it rows = row Missing (not (has_picture directory line it)) ∷ fit_rows d line it rows

-- ---- the table's answers of what judges an item: the code walks its data once and gives the first that applies (proofs/First.antt)

abbrev pub verdict_answer : Result Unit Refusal → Answer
verdict_answer (Ok u) = Taken
verdict_answer (Err (Before p)) = Again p
verdict_answer (Err (Unknown p)) = Undeclared p
verdict_answer (Err (Reaches p)) = Past p
verdict_answer (Err (Wrong p)) = Unfit p

-- of data from `at` on
abbrev pub judgement_answer : ℕ → Result Unit NotFit → Answer
judgement_answer at (Ok u) = Taken
judgement_answer at (Err (NamesUndeclared p)) = Undeclared p
judgement_answer at (Err (GoesPast p)) = Past p
judgement_answer at (Err Unfits) = Unfit at

abbrev pub data_answer_of : Result Unit DataFault → Answer
data_answer_of (Ok u) = Taken
data_answer_of (Err (Unnamed p)) = Undeclared p
data_answer_of (Err (TooFar p)) = Past p

-- ---- what an item does outside a form

-- "`Rm,n` .. It replaces the earlier one and is added to coordinates after it"; "formats sent outside a form serve commands outside forms" (paper 02, §10)
abbrev pub based_by : Session → Item → Session
based_by s (Origin o) = based s (sixteen_bits o.x) (sixteen_bits o.y)
based_by s (Variable v) = s
based_by s (Counter c) = s
based_by s (Text t) = s
based_by s (Bars b) = s
based_by s (Box r) = s
based_by s (Frame f) = s
based_by s (Slant l) = s
based_by s (Picture p) = s
based_by s (Format f) = formatted s (with_format s.formats f.stamp f.format)

-- an item outside a form is drawn on the background
abbrev pub drawn_on : List ℕ → List ℕ → Session → World → Item → World
drawn_on font line s w it =
    with_background w
    (draws_item (setting font w.store w.links w.directory w.values s.counters s.clock s.width s.length) (outside_forms s.formats) s.x s.y line it w.background)

abbrev pub item_runs : List ℕ → World → Session → List ℕ → Item → State
item_runs font w s line it = state (based_by s it) (drawn_on font line s w it)

-- what such an item leaves: "Outside recording, data elements find nothing declared", and the session's formats are in force
abbrev pub item_by : List ℕ → World → Session → List ℕ → Item → Ran
item_by font w s line it = ran_by (answer_of (item_rows (outside_forms s.formats) w.directory line it [])) s w [] (item_runs font w s line it) []
