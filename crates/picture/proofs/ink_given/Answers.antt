use native.Mathlib.Omega.{arith}
use mathlib.Core.Path.{refl}
use native.Mathlib.Nat.{mod-le}
use Rattle.picture.proofs.Part.{then-given, nothing-given}
use Rattle.picture.proofs.ink_given.Goals as goal

pub overflow_mul-x : goal.overflow_mul-x
overflow_mul-x c = let s = c in record { fits = omega (arith, mod-le s.args.q s.args.p.line, s.requires.1.small) }

pub overflow_add-x : goal.overflow_add-x
overflow_add-x c = let s = c in record { fits = omega (arith, mod-le s.args.q s.args.p.line, s.requires.1.small, s.requires.1.left) }

pub returns-then-p-x : goal.returns-then-p-x
returns-then-p-x c = let s = c in
    nothing-given s.args.p s.args.q _ s.requires.1 s.args.v (λ j. omega (arith, c.type_inv.page j)) c.if-p-x.true

pub returns : goal.returns
returns c = let e = c in
    let d = e in
    let l = d in
    let s = l in
    then-given s.args.p s.args.q _ s.requires.1 s.args.v _ l.min-n.result _ _ _ s.requires.0 refl refl (omega arith) d.dark_byte.ensures e.ink_eight.ensures
