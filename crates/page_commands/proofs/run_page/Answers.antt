use mathlib.Core.Path.{ap}
use Rattle.results.proofs.Parts.{on_background, on_nothing}
use Rattle.page_commands.proofs.run_page.Goals as goal

pub returns-in-Length : goal.returns-in-Length
returns-in-Length c = rw c.in-Length.is (ap (on_background _ _ _ _ _) c.set_length.ensures)

pub returns-in-Width : goal.returns-in-Width
returns-in-Width c = rw c.in-Width.is (ap (on_background _ _ _ _ _) c.set_width.ensures)

pub returns-in-Turn : goal.returns-in-Turn
returns-in-Turn c = rw c.in-Turn.is (ap (on_nothing _ _) c.set_turn.ensures)

pub returns-in-White : goal.returns-in-White
returns-in-White c = rw c.in-White.is c.whiten.ensures
