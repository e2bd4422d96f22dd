use Rattle.summary.proofs.Summary.decide.Goals as goal

pub returns : goal.returns
returns c = let c1 = c in let c2 = c1 in let c3 = c2 in
    rw (c.both-2.ensures, c1.both.ensures, c2.fit_length-long.ensures, c3.fit_length-short.ensures)
