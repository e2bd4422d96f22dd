-- The tests of the numbers.
-- Assumes nothing.
use mathlib.Core.Path.{◌≡◌}
use mathlib.Core.Bool.{true, ◌&&◌}
use Prim.Native.Nat.{ℕ, ◌≤◌}
use borrow.Author.Tests.{leb-true}
use lib.Dec.{leb, ltb}
use Rattle.kinds.specs.Bytes.{between}
use Rattle.ground.proofs.Tests.{and-true}
use Rattle.bars.specs.Drawing.{in_limits}

-- numbers in their limits
pub limits : (e f g : ℕ) → in_limits e f g ≡ true → (e ≤ 6) × (f ≤ 10)
unfolding in_limits between
limits e f g h =
    let s = (and-true ((leb 1 e && leb e 6) && (leb 2 f && leb f 10)) (ltb e f && (leb 24 g && leb g 1000)) h).0 in
    let t = and-true (leb 1 e && leb e 6) (leb 2 f && leb f 10) s in
    (leb-true e 6 (and-true (leb 1 e) (leb e 6) t.0).1, leb-true f 10 (and-true (leb 2 f) (leb f 10) t.1).1)
