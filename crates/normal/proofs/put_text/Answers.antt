use Prim.Native.Nat.{◌+◌}
use mathlib.Core.Path.{◌∙◌, ap, sym}
use lib.ListN.{take}
use Rattle.writing.specs.Writing.{cased}
use Rattle.writing.proofs.Writes.{wrote-same}
use Rattle.normal.proofs.Writes.{kept-all}
use Rattle.normal.proofs.put_text.Goals as goal

pub returns-then-n-line : goal.returns-then-n-line
returns-then-n-line c = let a = c.args in wrote-same c.copy.ensures (ap (cased a.fold) (c.first.ensures ∙ ap (take (a.n + 2)) c.rest.ensures))

pub returns : goal.returns
returns c = let a = c.args in wrote-same c.copy-2.ensures (ap (cased a.fold) (c.rest-2.ensures ∙ sym (kept-all a.line.now a.p a.n c.if-n-line.false)))
