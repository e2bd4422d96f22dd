use mathlib.Core.Path.{sym, ap, ◌∙◌}
use native.Mathlib.Omega.{arith}
use Rattle.dots.specs.declared.Ink.{Ink}
use Rattle.dots.proofs.Bits.{inked_byte, black-byte, white-byte, inverted-byte}
use Rattle.dots.proofs.ink_dots.Goals as goal

pub returns-in-Black : goal.returns-in-Black
returns-in-Black c = let a = c.args in
    black-byte a.b a.m (omega arith) (omega arith) ∙ ap (λ (i : Ink). inked_byte i a.b a.m) (sym c.in-Black.is)

pub returns-in-White : goal.returns-in-White
returns-in-White c = let a = c.args in
    white-byte a.b a.m (omega arith) (omega arith) ∙ ap (λ (i : Ink). inked_byte i a.b a.m) (sym c.in-White.is)

pub returns-in-Inverted : goal.returns-in-Inverted
returns-in-Inverted c = let a = c.args in
    inverted-byte a.b a.m (omega arith) (omega arith) ∙ ap (λ (i : Ink). inked_byte i a.b a.m) (sym c.in-Inverted.is)
