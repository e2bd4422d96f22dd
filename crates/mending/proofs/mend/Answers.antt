use Rattle.mending.proofs.Parts.{mended-is}
use Rattle.mending.proofs.mend.Goals as goal

pub returns : goal.returns
returns c = let a = c.args in mended-is a.store.now a.links.now a.directory.now a.verdicts.now a.fills.now _ _ _ c.mend_store.ensures c.mend_links.ensures c.mend_directory.ensures
