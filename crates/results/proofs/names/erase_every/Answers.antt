use Rattle.results.proofs.Erasing.{erased-together}
use Rattle.results.proofs.names.erase_every.Goals as goal

pub returns : goal.returns
returns c = let e = c in
    erased-together _ _ _ _ e.after_erased_all-after.ensures e.erase_all.ensures
