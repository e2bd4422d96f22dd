use Rattle.summary.proofs.stamp_summary.Goals as goal

pub returns : goal.returns
returns c = let c1 = c in let c2 = c1 in
    rw (c.stamp_good-good.ensures, c1.stamp_length-n.ensures, c2.of-format.ensures)
