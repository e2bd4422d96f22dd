use mathlib.Core.Path.{sym, ◌∙◌}
use Rattle.outside.proofs.WhiteOutside.{left-start, left_step, left-stop, left-done}
use Rattle.outside.proofs.white_bytes.Goals as goal

pub loop-i-init : goal.loop-i-init
loop-i-init c = let a = c.args in left-start a.width a.length a.at a.bytes.now

pub returns-then-not-white_byte : goal.returns-then-not-white_byte
returns-then-not-white_byte c = let a = c.args in
    left-stop a.width a.length a.at a.bytes.now c.loop-i.i c.loop-i-test.true
    (sym c.white_byte.ensures ∙ c.if-not-white_byte.true) ∙ c.loop-i.invariant

pub loop-i-preserved : goal.loop-i-preserved
loop-i-preserved c = let a = c.args in
    left_step a.width a.length a.at a.bytes.now c.loop-i.i c.loop-i-test.true
    (sym c.white_byte.ensures ∙ c.if-not-white_byte.false) ∙ c.loop-i.invariant

pub returns : goal.returns
returns c = let a = c.args in
    left-done a.width a.length a.at a.bytes.now c.loop-i.i c.loop-i-test.false ∙ c.loop-i.invariant
