use Rattle.store.specs.Entry.{entry}
use Rattle.verdicts.proofs.Judging.{noted-dropped, noted-kept}
use Rattle.verdicts.proofs.note.Goals as goal

pub returns-then-v-ne-KEPT : goal.returns-then-v-ne-KEPT
returns-then-v-ne-KEPT c = let p = c in let a = p.args in
    noted-dropped a.links.now (entry a.directory.now a.i) a.verdicts.now _ a.fills.now a.i a.v p.put_byte.ensures c.if-v-ne-KEPT.true

pub returns : goal.returns
returns c = let s = c in let f = s in let p = f in
    let a = p.args in
    noted-kept a.links.now (entry a.directory.now a.i) a.verdicts.now _ a.fills.now a.i a.v p.put_byte.ensures _ _ _ _
    f.if-v-ne-KEPT.false f.first_at-first.ensures.0 s.walk_length-n.ensures s.size_at-size.ensures.0 c.fill_chain.ensures
