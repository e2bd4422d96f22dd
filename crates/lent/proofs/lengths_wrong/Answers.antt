use Rattle.lent.specs.Lent.{lengths_wrong}
use Rattle.lent.proofs.lengths_wrong.Goals as goal

pub returns : goal.returns
unfolding lengths_wrong
returns c = let c1 = c in let c2 = c1 in let c3 = c2 in let c4 = c3 in let c5 = c4 in
    rw (c.either-3.ensures, c1.either-2.ensures, c2.either.ensures, c3.directory_wrong-d.ensures, c4.store_wrong-s.ensures, c5.page_wrong-p.ensures)
