-- "Opening clears all lent memory (output aside), frees all portions, and sets width 608, length N, origin 0,0, ZT, nothing owed."
-- Assumes nothing.
use Rattle.std.specs.Prelude.{ℕ, not, ◌||◌, cond, List, length, replicate, eqb}
use Rattle.cells.specs.Cell.{zeros}
use Rattle.store.specs.Chain.{free_link}
use Rattle.session.specs.declared.Labelled.{Labelled}
use Rattle.answers.specs.declared.Answer.TheVariants.{Taken, Lengths}
use Rattle.session.specs.Label.{labelled}
use Rattle.session.specs.Session.{none, fresh}
use Rattle.lent.specs.Lent.{World, world, rows_of, wrong_lent}

-- what opening leaves: its outcome, the page and the lists
pub record Opened : Type 0 where
  pub outcome : Labelled
  pub page : List ℕ
  pub world : World

abbrev pub opened_by : Labelled → List ℕ → World → Opened
opened_by r p w = record { outcome = r; page = p; world = w }

-- "clears all lent memory (output aside), frees all portions"
unfoldable pub cleared : World → World
cleared w =
    world (zeros (length w.background)) (zeros (length w.store)) (replicate (length w.links) free_link) (zeros (length w.directory))
    (zeros (length w.values))

-- [1] "a lent length is wrong": "a refused opening returns zeros". The number of free portions is that of all (paper 02, §6)
unfoldable pub opened : List ℕ → World → Opened
opened page w =
    cond (wrong_lent w || not (eqb (length page) (length w.background)))
    (opened_by (labelled Lengths none) page w)
    (opened_by (labelled Taken (fresh (rows_of w) (length w.links))) (zeros (length page)) (cleared w))
