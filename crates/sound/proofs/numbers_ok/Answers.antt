use Rattle.sound.proofs.numbers_ok.Goals as goal

pub returns : goal.returns
returns c = let c1 = c in let c2 = c1 in let c3 = c2 in let c4 = c3 in let c5 = c4 in let c6 = c5 in let c7 = c6 in
    rw (c.both-4.ensures, c1.both-3.ensures, c2.both-2.ensures, c3.both.ensures, c4.is_in-long_enough.ensures, c5.wide-2.ensures, c6.is_in-wide_enough.ensures, c7.wide.ensures)
