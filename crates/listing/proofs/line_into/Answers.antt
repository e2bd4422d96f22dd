use Rattle.store.specs.Entry.{entry}
use Rattle.listing.proofs.Line.{line-place, line-stored}
use Rattle.listing.proofs.line_into.Goals as goal

pub returns : goal.returns
returns c = let p = c in let n = p in let s = n in let t = s in let e = entry t.args.directory.now t.args.i in (
  line-place e t.args.line.now _ _ t.requires.1 s.size_at.ensures.0 n.put_decimal-n.ensures.place _ p.put_name.ensures.0,
  line-stored e t.args.line.now _ _ t.requires.1 s.size_at.ensures.0 n.put_decimal-n.ensures.place _ _ n.put_decimal-n.ensures.stored p.put_name.ensures.1,
)
