use Rattle.sound.specs.Sound.{times_ok}
use Rattle.sound.proofs.times_ok.Goals as goal

pub returns : goal.returns
unfolding times_ok
returns c = rw (c.both.ensures, c.legal_formats.ensures, c.is_legal.ensures)
