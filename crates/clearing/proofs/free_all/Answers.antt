use Rattle.clearing.proofs.free_all.Goals as goal

pub returns : goal.returns
returns c = c.fill.ensures.after (λ y e. e)
