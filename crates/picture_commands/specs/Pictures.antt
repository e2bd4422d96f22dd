-- GM, GK: their rows of the table, and what they do. more are the bytes behind a GM's line.
-- Assumes nothing.
use Rattle.std.specs.Prelude.{ℕ, true, not, cond, List, [], ◌∷◌, length, is_some}
use Rattle.pcx.specs.Rules.{legal as legal_picture}
use Rattle.growing.specs.Keep.{kept}
use Rattle.free_number.specs.After.{after_stored}
use Rattle.grammar.specs.declared.PictureCommand.{PictureCommand}
use Rattle.grammar.specs.declared.PictureCommand.TheVariants.{Store, Erase}
use Rattle.parts.specs.Names.{packed_of}
use Rattle.session.specs.declared.Session.{Session}
use Rattle.answers.specs.declared.Answer.TheVariants.{InUse, Missing, Illegal}
use Rattle.answers.specs.Answers.{Row, row, answer_of}
use Rattle.full.specs.Full.{full_rows}
use Rattle.lent.specs.Lent.{World}
use Rattle.results.specs.World.{State, state, memory_of, with_memory}
use Rattle.results.specs.Result.{Ran, ran_by}
use Rattle.results.specs.Named.{lookup, named, not_found, erased_named, erased_every}

-- [10] "name in use (FS, GM)", [16] "not a legal picture", then [19] and [23], whether there is room for its bytes; [11] "name not found (.. GK ..)"
abbrev pub picture_rows : World → Session → List ℕ → List ℕ → PictureCommand → List Row
picture_rows w s line more (Store p) =
    row InUse (is_some (lookup w true line p.at p.length))
    ∷ row Illegal (not (legal_picture more))
    ∷ full_rows s.free w.directory (length more)
picture_rows w s line more (Erase n) = row Missing (not_found w true line n) ∷ []

-- `GK"*"` "erases all, none included"
abbrev pub picture_runs : World → Session → List ℕ → List ℕ → PictureCommand → State
picture_runs w s line more (Store p) = state (after_stored s (length more)) (with_memory w (kept (memory_of w) 2 (packed_of line p.at p.length) more))
picture_runs w s line more (Erase n) = cond n.all (erased_every s w true) (erased_named s w (named w true line n))

-- what such a command leaves
abbrev pub picture_by : World → Session → List ℕ → List ℕ → PictureCommand → Ran
picture_by w s line more c = ran_by (answer_of (picture_rows w s line more c)) s w [] (picture_runs w s line more c) []
