use Rattle.results.proofs.names.place_of.Goals as goal

pub returns-in-Some : goal.returns-in-Some
returns-in-Some c = rw (c.in-Some.is, c.sixteen_bits.ensures)

pub returns-in-None : goal.returns-in-None
returns-in-None c = rw c.in-None.is
