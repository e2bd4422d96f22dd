use Rattle.lasting.proofs.saved.put_head.Goals as goal

pub returns : goal.returns
returns c = rw (c.put_two-4.ensures, c.put_two-3.ensures, c.put_two-2.ensures, c.put_two.ensures, c.put.ensures)
