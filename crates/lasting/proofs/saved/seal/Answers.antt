use Rattle.lasting.proofs.saved.seal.Goals as goal

pub returns : goal.returns
returns c = rw (c.put_four.ensures, c.file_sum-s.ensures)
