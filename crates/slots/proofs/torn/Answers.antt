use Rattle.slots.proofs.torn.Goals as goal

pub returns : goal.returns
returns c = rw (c.both.ensures, c.is_whole.ensures, c.order_of-begun.ensures)
