-- FS, FR, FK: their rows of the table, and what they do.
-- Assumes nothing.
use Rattle.std.specs.Prelude.{ℕ, false, cond, List, [], ◌∷◌, eqb, Option, is_some}
use Rattle.starting.specs.Start.{begun}
use Rattle.free_number.specs.After.{after_stored}
use Rattle.grammar.specs.declared.FormCommand.{FormCommand}
use Rattle.grammar.specs.declared.FormCommand.TheVariants.{Start, Retrieve, Erase}
use Rattle.parts.specs.Names.{packed_of}
use Rattle.session.specs.declared.Session.{Session}
use Rattle.answers.specs.declared.Answer.TheVariants.{InUse, Missing}
use Rattle.answers.specs.Answers.{Row, row, answer_of}
use Rattle.session.specs.Session.{activated}
use Rattle.full.specs.Full.{full_rows}
use Rattle.lent.specs.Lent.{World}
use Rattle.results.specs.World.{State, state, memory_of, with_memory, unset_in, inactive}
use Rattle.results.specs.Result.{Ran, ran_by}
use Rattle.results.specs.Named.{place_of, named, not_found, erased_named, erased_every}

-- [10] "name in use (FS, GM)", then [19] and [23], whether there is room for a form of no bytes; [11] "name not found (FR, FK ..)"
abbrev pub form_rows : World → Session → List ℕ → FormCommand → List Row
form_rows w s line (Start n) = row InUse (is_some (named w false line n)) ∷ full_rows s.free w.directory 0
form_rows w s line (Retrieve n) = row Missing (not_found w false line n) ∷ []
form_rows w s line (Erase n) = row Missing (not_found w false line n) ∷ []

-- a form that is erased is no longer active
abbrev pub erased_form : Session → World → Option ℕ → State
erased_form s w found = cond (eqb s.active (place_of found)) (inactive (erased_named s w found)) (erased_named s w found)

-- "FR unsets all values"; `FK"*"` "erases all, none included"
abbrev pub form_runs : World → Session → List ℕ → FormCommand → State
form_runs w s line (Start n) = state (after_stored s 0) (with_memory w (begun (memory_of w) 3 (packed_of line n.at n.length)))
form_runs w s line (Retrieve n) = state (activated s (place_of (named w false line n))) (unset_in w)
form_runs w s line (Erase n) = cond n.all (inactive (erased_every s w false)) (erased_form s w (named w false line n))

-- what such a command leaves
abbrev pub form_by : World → Session → List ℕ → FormCommand → Ran
form_by w s line c = ran_by (answer_of (form_rows w s line c)) s w [] (form_runs w s line c) []
