-- Which kind of full (paper 02, §5): what FS and GM are answered outside recording, computed, with two portions free and with none. Of `directory` one entry of two is
-- empty, of `all_in_use` none.
-- Assumes nothing.
use Rattle.std.specs.Prelude.{ℕ, ◌≡◌, refl, false, List, [], ◌∷◌, None}
use Rattle.kinds.specs.Bytes.{between}
use Rattle.kinds.specs.Text.{bytes}
use Rattle.cells.specs.Cell.{cell}
use Rattle.cells.specs.Scan.{lowest_from}
use Rattle.store.specs.Samples.{directory}
use Rattle.finding.specs.Find.{found, titled, same_name}
use Rattle.parts.specs.Names.{capital, name_byte}
use Rattle.pcx.specs.Cases.{header, file}
use Rattle.pcx.specs.Rules.{times, next, given as bytes_given, empty_run, no_empty_run, waiting, headed, filled, legal}
use Rattle.grammar.specs.declared.Command.{Command}
use Rattle.grammar.specs.declared.Command.TheVariants.{Forms, Pictures}
use Rattle.grammar.specs.declared.FormCommand.TheVariants.{Start}
use Rattle.grammar.specs.declared.PictureCommand.TheVariants.{Store}
use Rattle.answers.specs.Answers.{answer_of, number_of}
use Rattle.full.specs.Cases.{all_in_use}
use Rattle.lent.specs.Lent.{world}
use Rattle.session.specs.Session.{fresh}
use Rattle.calls.specs.Rows.{placed_rows}

-- the number that a command is answered with so many portions free, this directory and these bytes behind its line
unfoldable given : ℕ → List ℕ → List ℕ → List ℕ → Command → ℕ
given free dir line more c = number_of (answer_of (placed_rows (world [] [] [] dir []) (fresh 1 free) line more 0 c None))

-- FS of a name of one byte, and GM of "B" with these bytes
unfoldable starts : ℕ → List ℕ → List ℕ → ℕ
starts free dir line = given free dir line [] (Forms (Start (record { at = 2; length = 1; all = false })))

unfoldable stores : ℕ → List ℕ → List ℕ → ℕ
stores free dir more = given free dir (bytes "GM\"B\",133") more (Pictures (Store (record { at = 2; length = 1; n = 133 })))

-- there is room; portions ran out; entries ran out; both
which-start : starts 2 directory (bytes "FS\"B\"") ∷ starts 0 directory (bytes "FS\"B\"") ∷ starts 2 all_in_use (bytes "FS\"B\"") ∷ starts 0 all_in_use (bytes "FS\"B\"") ∷ []
    ≡ 0 ∷ 19 ∷ 23 ∷ 19 ∷ []
unfolding starts given answer_of number_of lowest_from cell found titled same_name between capital name_byte
which-start = refl

which-store : stores 2 directory file ∷ stores 0 directory file ∷ stores 2 all_in_use file ∷ stores 0 all_in_use file ∷ [] ≡ 0 ∷ 19 ∷ 23 ∷ 19 ∷ []
unfolding stores given answer_of number_of lowest_from cell found titled same_name between capital name_byte header file bytes_given times next empty_run no_empty_run waiting headed filled legal
which-store = refl

-- a name in use, and a picture that is not legal, stand before both
before-full : starts 0 all_in_use (bytes "FS\"A\"") ∷ stores 0 all_in_use [] ∷ [] ≡ 10 ∷ 16 ∷ []
unfolding starts stores given answer_of number_of lowest_from cell found titled same_name between capital name_byte headed filled legal
before-full = refl
