-- Lines within their limits, drawn from either end, and lines out of them.
-- Assumes nothing.
use mathlib.Core.Path.{◌≡◌, refl, sym, ◌∙◌}
use mathlib.Core.Bool.{Bool, true, false, ◌&&◌}
use mathlib.Core.List.{List}
use Prim.Native.Nat.{ℕ, ◌≤◌, ◌<◌}
use native.Mathlib.Omega.{arith}
use lib.Dec.{leb, ltb}
use borrow.Author.Tests.{leb-true, ltb-true}
use Rattle.dots.specs.declared.Ink.{Ink}
use Rattle.dots.specs.Dots.{within, drawn, cut}
use Rattle.ground.proofs.Tests.{and-true}
use Rattle.dots.proofs.Pages.{Bytes}
use Rattle.dots.proofs.Shapes.{cut-ext, cut_off}
use Rattle.slanted_lines.specs.declared.Line.{Line}
use Rattle.slanted_lines.specs.Slanted.{in_limits, slanted}
use Rattle.slanted_lines.specs.Code.{AsLine, near_line}
use Rattle.slanted_lines.proofs.Near.{near-sym}
use Rattle.slanted_lines.proofs.Expected.{slanted-is-near}

-- what the test of limits says
limits : (a b c d e : ℕ) → in_limits a b c d e ≡ true → (a ≤ 4095) × (d ≤ 4095) × (b ≤ 8191) × (e ≤ 8191) × (c < 81)
unfolding in_limits
limits a b c d e h =
    let k = and-true (leb a 4095 && leb d 4095) ((leb b 8191 && leb e 8191) && within 1 81 c) h in
    let s = and-true (leb a 4095) (leb d 4095) k.0 in
    let i = and-true (leb b 8191 && leb e 8191) (within 1 81 c) k.1 in
    let t = and-true (leb b 8191) (leb e 8191) i.0 in
    (leb-true a 4095 s.0, leb-true d 4095 s.1, leb-true b 8191 t.0, leb-true e 8191 t.1, ltb-true c 81 (and-true (leb 1 c) (ltb c 81) i.1).1)

-- the line with its upper end first
module _ (a b c d e : ℕ) (h : in_limits a b c d e ≡ true) where
  pub as-given : b ≤ e → AsLine a b c d e (record { a = a; b = b; c = c; d = d; e = e })
  as-given k =
      let f = limits a b c d e h in
      record {
        drawable = record { a-fits = omega arith; b-fits = omega arith; c-fits = omega arith; d-fits = omega arith; e-fits = omega arith; downward = k };
        same = λ x y. refl;
      }

  pub turned_round : e ≤ b → AsLine a b c d e (record { a = d; b = e; c = c; d = a; e = b })
  turned_round k =
      let f = limits a b c d e h in
      record {
        drawable = record { a-fits = omega arith; b-fits = omega arith; c-fits = omega arith; d-fits = omega arith; e-fits = omega arith; downward = k };
        same = λ x y. near-sym d e c a b x y;
      }

-- a line within limits is drawn, and out of limits none, as the code asks it
module _ (ink : Ink) (width length a b c d e : ℕ) (p q : List ℕ) (t : Bool) (known : t ≡ in_limits a b c d e) where
  pub line-drawn : (l : Line) → t ≡ true → AsLine a b c d e l → q ≡ drawn ink (cut width length (near_line l)) p
      → q ≡ drawn ink (cut width length (slanted a b c d e)) p
  line-drawn l h A i = i ∙ cut-ext ink width length _ _ p (λ x y j k m n. A.same x y ∙ sym (slanted-is-near a b c d e x y (sym known ∙ h)))

  pub no_line : t ≡ false → Bytes p → p ≡ drawn ink (cut width length (slanted a b c d e)) p
  unfolding slanted
  no_line h by = sym (cut_off ink width length (slanted a b c d e) p by (λ x y i j k l. rw (sym known ∙ h)))
