use Rattle.fits.proofs.names.differs.Goals as goal

pub returns : goal.returns
returns c = rw c.folded.ensures
