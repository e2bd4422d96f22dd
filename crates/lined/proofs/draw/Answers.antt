use Rattle.lined.specs.Lined.{bars_with}
use Rattle.lined.proofs.draw.Goals as goal

pub returns-in-Nothing : goal.returns-in-Nothing
unfolding bars_with
returns-in-Nothing c = rw c.in-Nothing.is c.draw.ensures

pub returns-in-Line : goal.returns-in-Line
unfolding bars_with
returns-in-Line c = rw c.in-Line.is c.draw_lined.ensures
