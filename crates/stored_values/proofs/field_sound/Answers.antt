use Rattle.stored_values.specs.Stored.{field_sound}
use Rattle.stored_values.proofs.field_sound.Goals as goal

pub returns : goal.returns
unfolding field_sound
returns c = let c1 = c in let c2 = c1 in let c3 = c2 in let c4 = c3 in let c5 = c4 in let c6 = c5 in
    rw (c.either.ensures, c1.both.ensures, c2.variable_declared.ensures, c3.all_zero.ensures, c4.keeps_value-kept.ensures, c5.length_at.ensures, c6.side_at.ensures)
