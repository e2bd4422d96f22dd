-- What a command of pictures leaves, in all that is lent.
-- Assumes nothing.
use mathlib.Core.Path.{◌≡◌}
use mathlib.Core.Bool.{Bool, true, false, cond}
use mathlib.Core.List.{List, [], ◌∷◌}
use Prim.Native.Nat.{ℕ}
use Rattle.std.specs.Prelude.{None, Option, Some}
use Rattle.grammar.specs.declared.PictureCommand.{PictureCommand}
use Rattle.grammar.specs.declared.PictureCommand.TheVariants.{Store, Erase}
use Rattle.session.specs.declared.Session.{Session}
use Rattle.answers.specs.declared.Answer.{Answer}
use Rattle.answers.specs.declared.Answer.TheVariants.{Missing}
use Rattle.answers.specs.Answers.{row, answer_of}
use Rattle.lent.specs.Lent.{world}
use Rattle.results.specs.World.{state}
use Rattle.results.specs.Result.{ran_by}
use Rattle.results.specs.Named.{named, not_found, erased_named, erased_every}
use Rattle.results.proofs.Parts.{on_memory, ran-in}
use Rattle.picture_commands.specs.Pictures.{picture_rows, picture_runs, picture_by}

-- an erasure in a memory is that in the lists around it
erase-in :
    (a : Answer) (p : Bool) (f : Option ℕ) (s : Session) (b st l d v o : List ℕ) →
    on_memory b v o
    (ran_by a s (world [] st l d []) []
    (cond p (erased_every s (world [] st l d []) true) (erased_named s (world [] st l d []) f)) [])
    ≡ ran_by a s (world b st l d v) o
    (cond p (erased_every s (world b st l d v) true) (erased_named s (world b st l d v) f)) []
erase-in a true f s b st l d v o = ran-in (on_memory b v o) a s (world [] st l d []) (erased_every s (world [] st l d []) true)
erase-in a false (Some i) s b st l d v o = ran-in (on_memory b v o) a s (world [] st l d []) (erased_named s (world [] st l d []) (Some i))
erase-in a false None s b st l d v o = ran-in (on_memory b v o) a s (world [] st l d []) (state s (world [] st l d []))

pub picture-around :
    (c : PictureCommand) (s : Session) (line more b st l d v o : List ℕ) →
    on_memory b v o (picture_by (world [] st l d []) s line more c)
    ≡ ran_by (answer_of (picture_rows (world b st l d v) s line more c)) s (world b st l d v) o (picture_runs (world b st l d v) s line more c) []
picture-around (Store p) s line more b st l d v o =
    ran-in (on_memory b v o) (answer_of (picture_rows (world [] st l d []) s line more (Store p))) s (world [] st l d []) (picture_runs (world [] st l d []) s line more (Store p))
picture-around (Erase n) s line more b st l d v o =
    erase-in (answer_of (row Missing (not_found (world [] st l d []) true line n) ∷ [])) n.all (named (world [] st l d []) true line n) s b st l d v o
