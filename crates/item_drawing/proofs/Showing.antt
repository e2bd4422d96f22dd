-- What is drawn of data and of a stored picture: as much of it as a buffer holds.
-- Assumes nothing.
use mathlib.Core.Path.{◌≡◌, sym, ap, ◌∙◌}
use mathlib.Core.Bool.{false, ◌&&◌, and-false}
use mathlib.Core.List.{List}
use Prim.Native.Nat.{ℕ, ◌+◌, ◌-◌, ◌≤◌, ◌<◌, min}
use native.Mathlib.Omega.{arith}
use native.Mathlib.Decide.{dec_le}
use lib.ListN.{length, take, length-take}
use lib.Seq.{sets, take_all}
use lib.Dec.{leb}
use borrow.Author.Tests.{lt-leb}
use Rattle.cells.proofs.Sets.{sets-front, sets-take}
use Rattle.pieces.specs.Data.{Laid, row, shown}
use Rattle.dots.specs.Dots.{box}
use Rattle.pcx.specs.Rules.{width, height, headed, legal}
use Rattle.picture.specs.Shape.{pictured, dark}
use Rattle.item_drawing.specs.Draw.{far}

pub far-is : (a b x y r : ℕ) → x ≡ min a 4294967295 → y ≡ min b 4294967295 → r ≡ min (x + y) 4294967295 → r ≡ far a b
unfolding far
far-is a b x y r ex ey er = omega arith

-- ---- bytes at the front of a buffer, as many as it holds

pub front-shown : (k n : ℕ) (bytes out out' : List ℕ) → length out ≡ k → out' ≡ sets out 0 bytes → n ≡ min (length bytes) (length out) → take n out' ≡ take k bytes
front-shown k n bytes out out' h eo en =
    let m : n ≡ length (take k bytes) = omega (arith, length-take k bytes) in
    rw (eo, ← sets-take out 0 k bytes (omega arith), m) (sets-front out (take k bytes) (omega (arith, length-take k bytes)))

pub data-shown : (n : ℕ) (bytes out out' : List ℕ) → length out ≡ 128 → row n out' ≡ shown bytes out → take n out' ≡ take 128 bytes
data-shown n bytes out out' h e = front-shown 128 n bytes out out' h (ap (λ (l : Laid). l.out) e) (ap (λ (l : Laid). l.next) e)

-- ---- what is longer than a legal picture

illegal-long : (bytes : List ℕ) → 32768 < length bytes → legal bytes ≡ false
unfolding legal headed
illegal-long bytes h = rw (lt-leb (length bytes) 32768 h, and-false (leb 129 (length bytes)))

none-pictured : (bytes : List ℕ) → legal bytes ≡ false → pictured bytes ≡ (λ x y a b. false)
unfolding pictured
none-pictured bytes e = λ i x y a b. e i && (box x y (x + width bytes) (y + height bytes) a b && dark bytes (a - x) (b - y))

pub pictured-front : (n : ℕ) (bytes out out' : List ℕ) → length out ≡ 32769 → out' ≡ sets out 0 bytes → n ≡ min (length bytes) (length out)
    → pictured (take n out') ≡ pictured bytes
pictured-front n bytes out out' h eo en = ap pictured (front-shown 32769 n bytes out out' h eo en) ∙ go (dec_le (length bytes) 32769)
  where
    go : Dec (length bytes ≤ 32769) → pictured (take 32769 bytes) ≡ pictured bytes
    go (yes k) = ap pictured (take_all 32769 bytes k)
    go (no k) =
        none-pictured (take 32769 bytes) (illegal-long (take 32769 bytes) (omega (arith, length-take 32769 bytes)))
        ∙ sym (none-pictured bytes (illegal-long bytes (omega arith)))
