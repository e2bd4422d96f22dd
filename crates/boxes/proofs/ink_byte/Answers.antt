use mathlib.Core.Path.{ap, ◌∙◌}
use Prim.Native.Nat.{ℕ, ◌+◌, ◌*◌}
use native.Mathlib.Omega.{arith}
use Rattle.dots.specs.Dots.{within, bit_of}
use Rattle.dots.proofs.Bits.{bit-of-byte}
use Rattle.dots.proofs.Pages.{ink-at}
use Rattle.boxes.proofs.Boxes.{in-byte, out-of-byte}
use Rattle.std.proofs.Common.{rules}
use Rattle.boxes.proofs.ink_byte.Goals as goal

pub returns : goal.returns
returns c = let a = c.args in
    let p = a.page.now in
    ink-at a.ink _ p (a.y * 76 + a.i) c.span_mask-m.result c.ink_dots.result
    (search rules) (omega arith) c.ink_dots.ensures
    (λ k t. ap (λ (m : ℕ). bit_of m k) c.span_mask-m.ensures ∙ bit-of-byte (within a.lo a.hi) k t
    ∙ in-byte a.y a.i a.lo a.hi (omega arith) (omega arith) k t)
    (out-of-byte a.y a.i a.lo a.hi (omega arith) (omega arith))
