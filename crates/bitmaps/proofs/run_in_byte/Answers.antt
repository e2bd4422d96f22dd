use mathlib.Core.Path.{sym, ◌∙◌}
use mathlib.Core.Bool.{true, false}
use native.Mathlib.Omega.{arith}
use Rattle.bitmaps.proofs.ByteRuns.{byte-run}
use Rattle.bitmaps.proofs.run_in_byte.Goals as goal

pub returns-then-on : goal.returns-then-on
returns-then-on c = let a = c.args in
    byte-run a.b a.k c.next_black.result true (omega arith) c.requires.0 (sym c.if-on.true ∙ c.requires.1) c.next_black.ensures

pub returns : goal.returns
returns c = let a = c.args in
    byte-run a.b a.k c.next_black-2.result false (omega arith) c.requires.0 (sym c.if-on.false ∙ c.requires.1) c.next_black-2.ensures
