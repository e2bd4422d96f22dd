use Rattle.stamps.specs.Texts.{two_digits}
use Rattle.stamps.proofs.Text.add_two.Goals as goal

pub returns : goal.returns
unfolding two_digits
returns c = rw (c.add-2.ensures, c.add.ensures)
