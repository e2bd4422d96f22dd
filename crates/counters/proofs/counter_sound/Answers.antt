use Rattle.counters.specs.Counters.{counter_sound}
use Rattle.counters.proofs.counter_sound.Goals as goal

pub returns-then-both : goal.returns-then-both
unfolding counter_sound
returns-then-both c = let c1 = c in let c2 = c1 in let c3 = c2 in
    rw (← c3.value_at-n.ensures, ← c2.tenth_byte.ensures, ← c1.both.ensures, c.if-both.true)

pub returns : goal.returns
unfolding counter_sound
returns c = let c1 = c in let c2 = c1 in let c3 = c2 in let c4 = c3 in let c5 = c4 in let c6 = c5 in let c7 = c6 in let c8 = c7 in let c9 = c8 in
    rw (c.both-3.ensures, c1.both-2.ensures, c2.counter_declared.ensures, c3.is_set.ensures, c4.ten.ensures, c5.width_at.ensures, ← c9.value_at-n.ensures, ← c8.tenth_byte.ensures, ← c7.both.ensures, c6.if-both.false)
