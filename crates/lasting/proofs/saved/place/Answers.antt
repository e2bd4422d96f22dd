use mathlib.Core.Path.{refl}
use Rattle.lasting.specs.File.{placed}
use Rattle.lasting.proofs.saved.place.Goals as goal

pub returns : goal.returns
unfolding placed
returns c = (refl, rw (c.put-3.ensures, c.put-2.ensures, c.put_links.ensures, c.put.ensures, c.put_head.ensures))
