use Rattle.store_sound.specs.Sound.{legal_byte}
use Rattle.store_check.proofs.legal_byte.Goals as goal

pub returns : goal.returns
unfolding legal_byte
returns c = rw (c.both-5.ensures, c.both-4.ensures, c.both-3.ensures, c.both-2.ensures, c.both.ensures)
