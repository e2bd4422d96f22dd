use Rattle.summary.proofs.Summary.join.Goals as goal

pub returns : goal.returns
returns c = let c1 = c in let c2 = c1 in
    rw (c.both-good.ensures, c1.sum_up_to-most.ensures, c2.sum_up_to-least.ensures)
