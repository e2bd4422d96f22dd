-- What a call leaves: its outcome and every list that it was lent to change.
-- Assumes nothing.
use Rattle.std.specs.Prelude.{ℕ, List}
use Rattle.session.specs.declared.Session.{Session}
use Rattle.answers.specs.declared.Answer.{Answer}
use Rattle.lent.specs.Lent.{World}
use Rattle.calls.specs.declared.Outcome.{Outcome}
pub use Rattle.session.specs.Label.{labelled}
pub use Rattle.opening.specs.Opening.{Opened, opened_by}
pub use Rattle.labelling.specs.Labelling.{Drawn, drawn_by}

-- what a command call leaves: its outcome, the lists and the output
pub record After : Type 0 where
  pub outcome : Outcome
  pub world : World
  pub output : List ℕ

abbrev pub after : Outcome → World → List ℕ → After
after r w o = record { outcome = r; world = w; output = o }

abbrev pub outcome : Answer → Session → ℕ → ℕ → Outcome
outcome a s n k = record { answer = a; session = s; read = n; written = k }
