-- "A label call copies the background, runs the active form from the session's origin, turns the page, moves counters, and counts one drawn."
-- Assumes nothing.
use Rattle.std.specs.Prelude.{ℕ, cond, List, eqb}
use Rattle.pages.specs.Pages.{copied}
use Rattle.half_turn.specs.Turn.{turned}
use Rattle.item_drawing.specs.Draw.{setting}
use Rattle.active_form.specs.Draw.{form_drawn}
use Rattle.answers.specs.declared.Answer.{Answer}
use Rattle.session.specs.declared.Session.{Session}
use Rattle.session.specs.declared.Labelled.{Labelled}
use Rattle.session.specs.Session.{moved, counted}
use Rattle.lent.specs.Lent.{World}
use Rattle.session.specs.Active.{active_of, active_declared}

-- "turns the page": with ZB
abbrev pub turned_by : ℕ → ℕ → ℕ → List ℕ → List ℕ
turned_by turn width length page = cond (eqb turn 1) (turned width length page) page

-- "runs the active form from the session's origin, turns the page": on a page as it stands. With no active form its bytes are none
abbrev pub label_on : List ℕ → Session → World → List ℕ → List ℕ
label_on font s w page =
    turned_by s.turn s.width s.length
    (form_drawn (setting font w.store w.links w.directory w.values s.counters s.clock s.width s.length) s.x s.y (active_of w s) page)

-- "copies the background": what stood on the page does not matter
unfoldable pub label_page : List ℕ → Session → World → List ℕ
label_page font s w = label_on font s w w.background

-- "moves counters, and counts one drawn"
unfoldable pub label_session : Session → World → Session
label_session s w = counted (moved s (active_declared w s))

-- what drawing a label leaves: the session and the page
pub record Printed : Type 0 where
  pub session : Session
  pub page : List ℕ

abbrev pub printed : Session → List ℕ → Printed
printed s page = record { session = s; page = page }

-- a label drawn on a page of any length: where it is not the background's, bytes beyond the shorter stay
unfoldable pub printed_on : List ℕ → Session → World → List ℕ → Printed
printed_on font s w page = printed (label_session s w) (label_on font s w (copied page w.background))

-- what opening and a label call answer
abbrev pub labelled : Answer → Session → Labelled
labelled a s = record { answer = a; session = s }
