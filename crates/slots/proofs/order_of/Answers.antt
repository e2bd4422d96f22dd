use Rattle.slots.proofs.order_of.Goals as goal

pub returns : goal.returns
returns c = rw (c.four_at.ensures, c.page_of.ensures)
