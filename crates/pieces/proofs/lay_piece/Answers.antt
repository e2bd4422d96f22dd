use Rattle.pieces.proofs.lay_piece.Goals as goal

pub returns : goal.returns
returns c = rw (c.put.ensures, c.least.ensures, c.less-room.ensures)
