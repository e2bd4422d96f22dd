use Rattle.lasting.proofs.saved.load_body.Goals as goal

pub returns : goal.returns
returns c = (rw (c.put.ensures, c.part.ensures), c.take_links.ensures, rw (c.put-2.ensures, c.part-2.ensures), rw (c.put-3.ensures, c.part-3.ensures))
