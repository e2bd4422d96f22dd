use Rattle.values.proofs.set_at.Goals as goal

pub returns : goal.returns
returns c = let c1 = c in let c2 = c1 in let c3 = c2 in let c4 = c3 in let c5 = c4 in let c6 = c5 in let c7 = c6 in
    rw (c.both.ensures, c1.either.ensures, c2.is_set.ensures, c3.counter_declared.ensures, c4.either-variable.ensures, c5.variable_declared.ensures, c6.byte-kept.ensures, c7.field_at.ensures)
