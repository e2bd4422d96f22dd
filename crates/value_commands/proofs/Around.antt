-- What a command of values leaves, in all that is lent.
-- Assumes nothing.
use mathlib.Core.Path.{◌≡◌, refl}
use mathlib.Core.List.{List, []}
use Prim.Native.Nat.{ℕ}
use Rattle.grammar.specs.declared.ValueCommand.{ValueCommand}
use Rattle.grammar.specs.declared.ValueCommand.TheVariants.{Variable, Counter, Clear, Print}
use Rattle.session.specs.declared.Session.{Session}
use Rattle.answers.specs.declared.Answer.{Answer}
use Rattle.answers.specs.declared.Answer.TheVariants.{Taken}
use Rattle.answers.specs.Answers.{answer_of, is_taken}
use Rattle.lent.specs.Lent.{World, world}
use Rattle.results.specs.World.{State}
use Rattle.results.specs.Result.{done, ran, ran_by}
use Rattle.results.proofs.Answers.{cond_map}
use Rattle.results.proofs.Parts.{on_values}
use Rattle.value_commands.specs.Values.{value_rows, value_runs, value_by}

pub value-around :
    (c : ValueCommand) (s : Session) (line b st l d v o : List ℕ) →
    on_values b st l d o (value_by (world [] st l d v) s line c)
    ≡ ran_by (answer_of (value_rows (world b st l d v) s line c)) s (world b st l d v) o (value_runs (world b st l d v) s line c) []
value-around c s line b st l d v o = by c
  where
    moved : (a : Answer) (t : State) →
        on_values b st l d o (ran_by a s (world [] st l d v) [] t [])
        ≡ ran_by a s (world b st l d v) o (record { session = t.session; world = world b st l d t.world.values }) []
    moved a t =
        cond_map (on_values b st l d o) (is_taken a) (ran (done Taken t.session 0) t.world []) (ran (done a s 0) (world [] st l d v) [])

    by : (c : ValueCommand) →
        on_values b st l d o (value_by (world [] st l d v) s line c)
        ≡ ran_by (answer_of (value_rows (world b st l d v) s line c)) s (world b st l d v) o (value_runs (world b st l d v) s line c) []
    by (Variable k) = moved _ (value_runs (world [] st l d v) s line (Variable k))
    by (Counter k) = moved _ (value_runs (world [] st l d v) s line (Counter k))
    by Clear = moved _ (value_runs (world [] st l d v) s line Clear)
    by (Print p) = moved _ (value_runs (world [] st l d v) s line (Print p))
