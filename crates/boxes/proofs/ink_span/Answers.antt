use mathlib.Core.Path.{◌≡◌, refl}
use Prim.Native.Nat.{ℕ, ◌+◌, ◌*◌, ◌/◌, ◌%◌, ◌≤◌, ◌<◌}
use mathlib.Core.List.{List}
use Rattle.dots.specs.declared.Ink.{Ink}
use native.Mathlib.Omega.{arith}
use Rattle.dots.specs.Dots.{drawn, box}
use Rattle.boxes.proofs.Boxes.{then-beside, as-box}
use Rattle.boxes.proofs.ink_span.Goals as goal

most : (ink : Ink) (x0 x1 y : ℕ) (p q r : List ℕ) → x1 ≤ 608 → x0 < x1 → (x0 / 8 ≡ x1 / 8 → ⊥)
    → q ≡ drawn ink (box (x0 / 8 * 8 + x0 % 8) y (x0 / 8 * 8 + 8) (y + 1)) p
    → r ≡ drawn ink (box ((x0 / 8 + 1) * 8) y (x1 / 8 * 8) (y + 1)) q
    → r ≡ drawn ink (box x0 y (x1 / 8 * 8) (y + 1)) p
most ink x0 x1 y p q r a b n e f =
    as-box _ _ _ _ _ _ _ _ _ _ _
    (then-beside _ _ _ _ _ _ _ _ _ _ _ e f (omega arith) refl (omega arith) (omega arith))
    (λ u v s t h. omega arith) (λ u v s t h. omega arith)

pub returns-then-x1-gt0 : goal.returns-then-x1-gt0
returns-then-x1-gt0 c = let a = c.args in
    then-beside _ _ _ _ _ _ _ _ _ _ _
    (most a.ink a.x0 a.x1 a.y _ _ _ (omega arith) (omega arith) c.if-i-j.false c.ink_byte-2.ensures c.ink_bytes.ensures)
    c.ink_byte-then-x1-gt0.ensures
    (omega arith) (omega arith) (omega arith) (omega arith)

pub returns-else-x1-gt0 : goal.returns-else-x1-gt0
returns-else-x1-gt0 c = let a = c.args in
    as-box _ _ _ _ _ _ _ _ _ _ _
    (most a.ink a.x0 a.x1 a.y _ _ _ (omega arith) (omega arith) c.if-i-j.false c.ink_byte-2.ensures c.ink_bytes.ensures)
    (λ x y s t h. omega arith) (λ x y s t h. omega arith)
