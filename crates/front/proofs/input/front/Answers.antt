use mathlib.Core.Path.{◌∙◌, sym}
use native.Mathlib.Nat.{zero-add}
use borrow.Author.Tests.{le-ltb, lt-ltb}
use Rattle.front.specs.Front.{front_of}
use Rattle.front.proofs.input.front.Goals as goal

pub returns-then-n-lt256 : goal.returns-then-n-lt256
unfolding front_of
returns-then-n-lt256 c = let e = sym (c.run_end-n.ensures ∙ zero-add _) in rw (e, lt-ltb _ _ c.if-n-input.true, lt-ltb _ 256 c.if-n-lt256.true) c.line_front.ensures

pub returns-then-n-input : goal.returns-then-n-input
unfolding front_of
returns-then-n-input c = let e = sym (c.run_end-n.ensures ∙ zero-add _) in rw (e, lt-ltb _ _ c.if-n-input.true, le-ltb _ 256 c.if-n-lt256.false)

pub returns-then-input-lt256 : goal.returns-then-input-lt256
unfolding front_of
returns-then-input-lt256 c = let e = sym (c.run_end-n.ensures ∙ zero-add _) in rw (e, le-ltb _ _ c.if-n-input.false, lt-ltb _ 256 c.if-input-lt256.true)

pub returns-else-input-lt256 : goal.returns-else-input-lt256
unfolding front_of
returns-else-input-lt256 c = let e = sym (c.run_end-n.ensures ∙ zero-add _) in rw (e, le-ltb _ _ c.if-n-input.false, le-ltb _ 256 c.if-input-lt256.false)
