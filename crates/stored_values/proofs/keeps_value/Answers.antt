use Rattle.stored_values.specs.Stored.{keeps}
use Rattle.stored_values.proofs.keeps_value.Goals as goal

pub returns : goal.returns
unfolding keeps
returns c = let c1 = c in let c2 = c1 in let c3 = c2 in let c4 = c3 in let c5 = c4 in let c6 = c5 in let c7 = c6 in let c8 = c7 in let c9 = c8 in
    rw (c.both-3.ensures, c1.both-2.ensures, c2.both.ensures, c3.byte-2.ensures, c4.all_zero-blank.ensures, c5.back.ensures, c6.value_fits-fitting.ensures, c7.field_value.ensures, c8.wide-n.ensures, c9.byte.ensures)
