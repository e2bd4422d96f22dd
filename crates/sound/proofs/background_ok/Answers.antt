use Rattle.sound.specs.Sound.{background_ok}
use Rattle.sound.proofs.background_ok.Goals as goal

pub returns : goal.returns
unfolding background_ok
returns c = let c1 = c in let c2 = c1 in
    rw (c.white_outside.ensures, c1.wide-2.ensures, c2.wide.ensures)
