-- What a command of the page leaves, in all that is lent.
-- Assumes nothing.
use mathlib.Core.Path.{◌≡◌, refl}
use mathlib.Core.List.{List, []}
use Prim.Native.Nat.{ℕ}
use Rattle.grammar.specs.declared.PageCommand.{PageCommand}
use Rattle.grammar.specs.declared.PageCommand.TheVariants.{Length, Width, Turn, White}
use Rattle.session.specs.declared.Session.{Session}
use Rattle.answers.specs.declared.Answer.TheVariants.{Taken}
use Rattle.lent.specs.Lent.{world}
use Rattle.results.specs.Result.{ran, done}
use Rattle.results.proofs.Parts.{on_page}
use Rattle.page_commands.specs.Page.{page_runs, page_by}

pub page-around :
    (c : PageCommand) (s : Session) (b st l d v o : List ℕ) →
    on_page st l d o (page_by (world b [] [] [] v) s c)
    ≡ ran (done Taken (page_runs (world b st l d v) s c).session 0) (page_runs (world b st l d v) s c).world o
page-around (Length m) s b st l d v o = refl
page-around (Width m) s b st l d v o = refl
page-around (Turn t) s b st l d v o = refl
page-around White s b st l d v o = refl
