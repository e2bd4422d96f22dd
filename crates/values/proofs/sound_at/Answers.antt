use Rattle.values.proofs.sound_at.Goals as goal

pub returns : goal.returns
returns c = let c1 = c in let c2 = c1 in let c3 = c2 in
    rw (c.both.ensures, c1.counter_sound.ensures, c2.field_sound.ensures, c3.field_at.ensures)
