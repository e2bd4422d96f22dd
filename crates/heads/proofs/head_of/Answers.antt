use Rattle.heads.specs.Heads.{head_of}
use Rattle.heads.proofs.head_of.Goals as goal

pub returns : goal.returns
unfolding head_of
returns c = rw (← c.byte.ensures, ← c.byte-2.ensures, ← c.byte-3.ensures) c.by_first.ensures
