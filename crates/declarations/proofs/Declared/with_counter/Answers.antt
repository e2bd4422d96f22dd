use mathlib.Core.Path.{◌≡◌, refl, ◌∙◌}
use mathlib.Core.Bool.{Bool, true, false, cond}
use Prim.Native.Nat.{ℕ}
use mir.Val.{bool_byte}
use borrow.Author.Tests.{lt-ltb, le-ltb}
use Rattle.declarations.specs.Declarations.{with_counter}
use Rattle.declarations.proofs.Declared.with_counter.Goals as goal

flag : (b : Bool) → bool_byte b ≡ cond b 1 0
flag true = refl
flag false = refl

pub returns-then-n-lt10 : goal.returns-then-n-lt10
unfolding with_counter
returns-then-n-lt10 c = rw (lt-ltb _ 10 c.if-n-lt10.true, c.least.ensures, c.from.ensures ∙ flag c.args.minus, c.least-then-n-lt10.ensures)

pub returns-else-n-lt10 : goal.returns-else-n-lt10
unfolding with_counter
returns-else-n-lt10 c = rw (le-ltb _ 10 c.if-n-lt10.false)
