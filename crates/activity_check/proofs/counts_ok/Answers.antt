use Rattle.activity_check.proofs.counts_ok.Goals as goal

pub returns : goal.returns
returns c = cc
