use Rattle.station.proofs.commanding.first_answer.Goals as goal

pub returns : goal.returns
returns c = rw (← c.lengths_wrong-wrong.ensures) c.entry_answer.ensures
