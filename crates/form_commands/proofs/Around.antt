-- What a command of forms leaves, in all that is lent.
-- Assumes nothing.
use mathlib.Core.Path.{◌≡◌}
use mathlib.Core.Bool.{Bool, true, false, cond}
use mathlib.Core.List.{List, [], ◌∷◌}
use Prim.Native.Nat.{ℕ}
use lib.Dec.{eqb}
use Rattle.std.specs.Prelude.{None, Option, Some}
use Rattle.grammar.specs.declared.FormCommand.{FormCommand}
use Rattle.grammar.specs.declared.FormCommand.TheVariants.{Start, Retrieve, Erase}
use Rattle.session.specs.declared.Session.{Session}
use Rattle.answers.specs.declared.Answer.{Answer}
use Rattle.answers.specs.declared.Answer.TheVariants.{Missing}
use Rattle.answers.specs.Answers.{row, answer_of}
use Rattle.lent.specs.Lent.{world}
use Rattle.results.specs.World.{state, inactive}
use Rattle.results.specs.Result.{ran_by}
use Rattle.results.specs.Named.{place_of, named, not_found, erased_named, erased_every}
use Rattle.results.proofs.Parts.{on_forms, ran-in}
use Rattle.form_commands.specs.Forms.{form_rows, form_runs, form_by}

-- an erasure in a memory is that in the lists around it
erase-in :
    (a : Answer) (p q : Bool) (f : Option ℕ) (s : Session) (b st l d v o : List ℕ) →
    on_forms b o
    (ran_by a s (world [] st l d v) []
    (cond p (inactive (erased_every s (world [] st l d v) false))
    (cond q (inactive (erased_named s (world [] st l d v) f)) (erased_named s (world [] st l d v) f))) [])
    ≡ ran_by a s (world b st l d v) o
    (cond p (inactive (erased_every s (world b st l d v) false))
    (cond q (inactive (erased_named s (world b st l d v) f)) (erased_named s (world b st l d v) f))) []
erase-in a true q f s b st l d v o = ran-in (on_forms b o) a s (world [] st l d v) (inactive (erased_every s (world [] st l d v) false))
erase-in a false true (Some i) s b st l d v o = ran-in (on_forms b o) a s (world [] st l d v) (inactive (erased_named s (world [] st l d v) (Some i)))
erase-in a false true None s b st l d v o = ran-in (on_forms b o) a s (world [] st l d v) (inactive (state s (world [] st l d v)))
erase-in a false false (Some i) s b st l d v o = ran-in (on_forms b o) a s (world [] st l d v) (erased_named s (world [] st l d v) (Some i))
erase-in a false false None s b st l d v o = ran-in (on_forms b o) a s (world [] st l d v) (state s (world [] st l d v))

pub form-around :
    (c : FormCommand) (s : Session) (line b st l d v o : List ℕ) →
    on_forms b o (form_by (world [] st l d v) s line c)
    ≡ ran_by (answer_of (form_rows (world b st l d v) s line c)) s (world b st l d v) o (form_runs (world b st l d v) s line c) []
form-around (Start n) s line b st l d v o =
    ran-in (on_forms b o) (answer_of (form_rows (world [] st l d v) s line (Start n))) s (world [] st l d v) (form_runs (world [] st l d v) s line (Start n))
form-around (Retrieve n) s line b st l d v o =
    ran-in (on_forms b o) (answer_of (form_rows (world [] st l d v) s line (Retrieve n))) s (world [] st l d v) (form_runs (world [] st l d v) s line (Retrieve n))
form-around (Erase n) s line b st l d v o =
    erase-in (answer_of (row Missing (not_found (world [] st l d v) false line n) ∷ [])) n.all
    (eqb s.active (place_of (named (world [] st l d v) false line n))) (named (world [] st l d v) false line n) s b st l d v o
