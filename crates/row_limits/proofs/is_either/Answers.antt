use Rattle.row_limits.proofs.is_either.Goals as goal

pub returns-then-is_name : goal.returns-then-is_name
returns-then-is_name c = rw (← c.is_name.ensures, c.if-is_name.true)

pub returns : goal.returns
returns c = rw (← c.is_name.ensures, c.if-is_name.false) c.is_star.ensures
