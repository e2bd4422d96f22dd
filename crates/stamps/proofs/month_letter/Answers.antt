use Rattle.stamps.specs.Texts.{months}
use Rattle.stamps.proofs.month_letter.Goals as goal

pub returns : goal.returns
unfolding months
returns c = rw (c.byte.ensures, c.wide.ensures, c.start.ensures)
