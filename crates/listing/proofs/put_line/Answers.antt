use mathlib.Core.Path.{ap}
use Prim.Native.Nat.{ℕ, ◌+◌}
use native.Mathlib.Omega.{arith}
use Rattle.store.specs.Entry.{entry}
use Rattle.listing.proofs.Line.{line-short, line-moved}
use Rattle.listing.proofs.put_line.Goals as goal

pub overflow_add-result : goal.overflow_add-result
overflow_add-result c = let l = c in let t = l in omega (arith, l.line_into-n.ensures.0, t.requires.1.1, line-short (entry t.args.directory.now t.args.i))

pub returns : goal.returns
returns c = let p = c in let l = p in let t = l in (
  ap (λ (m : ℕ). t.args.at + m) l.line_into-n.ensures.0,
  line-moved (entry t.args.directory.now t.args.i) _ _ _ _ _ _ _ t.requires.1.0 l.line_into-n.ensures.0 l.line_into-n.ensures.1
      p.front.ensures p.put.ensures,
)
