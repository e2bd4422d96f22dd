-- ?V, ?C, VC, P: their rows of the table, and what they do.
-- Assumes nothing.
use Rattle.std.specs.Prelude.{ℕ, ◌+◌, not, List, [], ◌∷◌, take, drop, ltb, Result, Ok, Err}
use Rattle.declarations.specs.declared.Refused.{Refused}
use Rattle.declarations.specs.declared.Refused.TheVariants.{Undeclared as NotDeclared, Unfit as DoesNotFit}
use Rattle.declarations.specs.Declarations.{variable_declared, counter_declared, side_at, length_at, width_at}
use Rattle.counters.specs.Counters.{counter_entered, counters_after, ten_to}
use Rattle.counter_steps.specs.Steps.{lasts}
use Rattle.padding.specs.Padding.{enters}
use Rattle.stored_values.specs.Stored.{variable_entered}
use Rattle.values.specs.Sound.{all_set}
use Rattle.grammar.specs.Named.{ENTERED-AT}
use Rattle.grammar.specs.declared.ValueCommand.{ValueCommand}
use Rattle.grammar.specs.declared.ValueCommand.TheVariants.{Variable, Counter, Clear, Print}
use Rattle.active_form.specs.Form.{pictures_stored}
use Rattle.session.specs.declared.Session.{Session}
use Rattle.answers.specs.declared.Answer.{Answer}
use Rattle.answers.specs.declared.Answer.TheVariants.{Taken, Missing, Undeclared, Misfit, Unset, RunsOut}
use Rattle.answers.specs.Answers.{Row, row, answer_of}
use Rattle.session.specs.Session.{counting, owing, sixteen_bits}
use Rattle.lent.specs.Lent.{World}
use Rattle.session.specs.Active.{active_of, active_declared}
use Rattle.results.specs.World.{State, state, with_values, unset_in}
use Rattle.results.specs.Result.{Ran, ran_by}

-- the table's answers where a value is refused; 13 points to the number of `?V` or `?C`
abbrev pub refusal_answer : Refused → Answer
refusal_answer NotDeclared = Undeclared ENTERED-AT
refusal_answer DoesNotFit = Misfit

-- of what entering a value answers
abbrev pub entered_answer : {A : Type 0} → Result A Refused → Answer
entered_answer (Ok x) = Taken
entered_answer (Err r) = refusal_answer r

-- the text that `?V` gives
abbrev pub text_of : List ℕ → ℕ → ℕ → List ℕ
text_of line at n = take n (drop (at + 1) line)

-- [13] "variable or counter not declared" and [17] "value does not fit its declaration", each for itself: a variable that is not declared has length 0 and a
-- counter that is not no digit; for P [11] "when the active form draws an erased picture", [18] "P while a declared value is unset" and
-- [22] "counter runs out" (paper 02, §3)
abbrev pub value_rows : World → Session → List ℕ → ValueCommand → List Row
value_rows w s line (Variable v) =
    row (Undeclared ENTERED-AT) (not (variable_declared (active_declared w s) v.n))
    ∷ row Misfit (not (enters (side_at (active_declared w s) v.n) (length_at (active_declared w s) v.n) (text_of line v.at v.length)))
    ∷ []
value_rows w s line (Counter c) =
    row (Undeclared ENTERED-AT) (not (counter_declared (active_declared w s) c.n))
    ∷ row Misfit (not (ltb c.value (ten_to (width_at (active_declared w s) c.n))))
    ∷ []
value_rows w s line Clear = []
value_rows w s line (Print p) =
    row Missing (not (pictures_stored w.directory (active_of w s)))
    ∷ row Unset (not (all_set (active_declared w s) w.values s.counters))
    ∷ row RunsOut (not (lasts (active_declared w s) s.counters (sixteen_bits p.k)))
    ∷ []

-- `VC` "unsets variables, not counters"
abbrev pub value_runs : World → Session → List ℕ → ValueCommand → State
value_runs w s line (Variable v) =
    state s (with_values w (variable_entered (active_declared w s) v.n (text_of line v.at v.length) w.values).values)
value_runs w s line (Counter c) = state (counting s (counters_after s.counters (counter_entered (active_declared w s) s.counters c.n c.value))) w
value_runs w s line Clear = state s (unset_in w)
value_runs w s line (Print p) = state (owing s (sixteen_bits p.k)) w

-- what such a command leaves
abbrev pub value_by : World → Session → List ℕ → ValueCommand → Ran
value_by w s line c = ran_by (answer_of (value_rows w s line c)) s w [] (value_runs w s line c) []
