use mathlib.Core.Path.{sym}
use Rattle.chain_check.proofs.Claims.{fits-free, fits-taken}
use Rattle.chain_check.proofs.mark_fits.Goals as goal

pub returns-then-links-q : goal.returns-then-links-q
returns-then-links-q c = sym (fits-free c.args.links.now c.args.marks.now c.args.q c.if-links-q.true)

pub returns : goal.returns
returns c = sym (fits-taken c.args.links.now c.args.marks.now c.args.q c.if-links-q.false)
