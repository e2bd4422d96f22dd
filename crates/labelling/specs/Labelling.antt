-- A label call: the table decides, and what is drawn and moved is `label_page` and `label_session` of crate `session`.
-- Assumes nothing.
use Rattle.std.specs.Prelude.{ℕ, Bool, true, false, not, ◌||◌, cond, List, [], ◌∷◌, length, eqb}
use Rattle.session.specs.declared.Session.{Session}
use Rattle.session.specs.declared.Labelled.{Labelled}
use Rattle.answers.specs.declared.Answer.{Answer}
use Rattle.answers.specs.declared.Answer.TheVariants.{Taken, NoneOwed}
use Rattle.answers.specs.Answers.{Row, row, answer_of, is_taken}
use Rattle.session.specs.Label.{labelled}
use Rattle.lent.specs.Lent.{World, wrong_lent}
use Rattle.session.specs.Label.{label_page, label_session}
use Rattle.sound.specs.Entry.{entry_rows}

-- what a label call leaves: its outcome and the page
pub record Drawn : Type 0 where
  pub outcome : Labelled
  pub page : List ℕ

abbrev pub drawn_by : Labelled → List ℕ → Drawn
drawn_by r p = record { outcome = r; page = p }

-- the table of a label call: 1, 2 and 3, then [21] "a label call with none owed"
unfoldable pub label_table : Session → List ℕ → World → ℕ → List Row
label_table s font w page =
    entry_rows (wrong_lent w || not (eqb page (length w.background))) font s w (row NoneOwed (eqb s.owed 0) ∷ [])

-- the first row of the table that applies is the answer; if none does the label is drawn. "A refusal leaves session and all lent memory unchanged"
unfoldable pub labelled_by : Session → List ℕ → World → List ℕ → Drawn
labelled_by s font w page =
    let a : Answer = answer_of (label_table s font w (length page)) in
    cond (is_taken a) (drawn_by (labelled Taken (label_session s w)) (label_page font s w)) (drawn_by (labelled a s) page)
