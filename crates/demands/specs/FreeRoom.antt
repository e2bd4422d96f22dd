-- Paper 02, §6: the commands that move the number of free portions.
-- Assumes nothing.
use Rattle.std.specs.Prelude.{ℕ, ◌≡◌, Bool, true, false, List, None, Option, Some}
use Rattle.grammar.specs.declared.Command.{Command}
use Rattle.grammar.specs.declared.Command.TheVariants.{Item as item, End, Page, Forms, Pictures, Values, Listing, Clock}
use Rattle.grammar.specs.declared.FormCommand.TheVariants.{Start, Retrieve, Erase as EraseForm}
use Rattle.grammar.specs.declared.PictureCommand.TheVariants.{Store, Erase as ErasePicture}
use Rattle.finding.specs.Find.{recorded}
use Rattle.lent.specs.Lent.{World}
use Rattle.demands.specs.Calls.{Says}

-- "FS, each recorded line, .. FK, GM, GK", by whether a form is being recorded. FE is none of them: the form keeps its portions
abbrev pub storing : Option ℕ → Command → Bool
storing (Some i) (item it) = true
storing (Some i) End = false
storing (Some i) (Page c) = false
storing (Some i) (Forms c) = false
storing (Some i) (Pictures c) = false
storing (Some i) (Values c) = false
storing (Some i) (Listing c) = false
storing (Some i) (Clock c) = false
storing None (item it) = false
storing None End = false
storing None (Page c) = false
storing None (Forms (Start n)) = true
storing None (Forms (Retrieve n)) = false
storing None (Forms (EraseForm n)) = true
storing None (Pictures (Store p)) = true
storing None (Pictures (ErasePicture n)) = true
storing None (Values c) = false
storing None (Listing c) = false
storing None (Clock c) = false

-- an input at whose front stands such a command
pub record Stores (w : World) (input : List ℕ) : Type 0 where
  pub command : Command
  pub says : Says w input command
  pub moves : storing (recorded w.directory) command ≡ true
