use Rattle.lined.proofs.insets.left_of.Goals as goal

pub returns-in-Left : goal.returns-in-Left
returns-in-Left c = rw c.in-Left.is

pub returns-in-Centre : goal.returns-in-Centre
returns-in-Centre c = rw c.in-Centre.is c.smaller_half.ensures

pub returns-in-Right : goal.returns-in-Right
returns-in-Right c = rw c.in-Right.is
