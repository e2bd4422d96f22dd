use borrow.Author.Tests.{lt-ltb, le-ltb}
use Rattle.store_sound.specs.Sound.{name_byte_ok}
use Rattle.store_check.proofs.name_byte_ok.Goals as goal

pub returns-then-k-n : goal.returns-then-k-n
unfolding name_byte_ok
returns-then-k-n c = rw (lt-ltb _ _ c.if-k-n.true) c.legal_byte.ensures

pub returns : goal.returns
unfolding name_byte_ok
returns c = rw (le-ltb _ _ c.if-k-n.false)
