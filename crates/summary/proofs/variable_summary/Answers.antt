use Rattle.summary.proofs.variable_summary.Goals as goal

pub returns : goal.returns
returns c = let c1 = c in let c2 = c1 in let c3 = c2 in let c4 = c3 in let c5 = c4 in
    rw (c.variable_good-good.ensures, c1.part_length-least.ensures, c2.shortest.ensures, c3.part_length-most.ensures, c4.side_at-side.ensures, c5.length_at-m.ensures)
