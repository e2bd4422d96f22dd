-- A format as one number: a legal one is got back.
use mathlib.Core.Path.{◌≡◌}
use mathlib.Core.Bool.{true}
use Prim.Native.Nat.{ℕ, ◌+◌, ◌*◌, ◌/◌, ◌%◌, ◌<◌}
use native.Mathlib.Omega.{arith}
use Rattle.ground.proofs.Tests.{and_left, and_right}
use Rattle.formats.specs.declared.Format.{Format}
use Rattle.formats.specs.declared.Stamp.{Stamp}
use Rattle.formats.specs.Formats.{unit, new_unit, separator, further, legal_format, packed, unpacked}
use Rattle.formats.proofs.Legality.{field-few, separator-range, Fields, one, two, three, legal-fields}

-- five bytes
pub record Bytes (f : Format) : Type 0 where
  pub first : f.first < 256
  pub mark1 : f.mark1 < 256
  pub second : f.second < 256
  pub mark2 : f.mark2 < 256
  pub third : f.third < 256

lowest : (a r : ℕ) → a < 256 → (a + 256 * r) % 256 ≡ a
lowest a r h = omega arith

higher : (a r : ℕ) → a < 256 → (a + 256 * r) / 256 ≡ r
higher a r h = omega arith

highest : (a : ℕ) → a < 256 → a % 256 ≡ a
highest a h = omega arith

-- five bytes are got back
pub unpacked-packed : (f : Format) → Bytes f → unpacked (packed f) ≡ f
unfolding unpacked packed
unpacked-packed f s = rw (
  lowest f.first (f.mark1 + 256 * (f.second + 256 * (f.mark2 + 256 * f.third))) s.first,
  higher f.first (f.mark1 + 256 * (f.second + 256 * (f.mark2 + 256 * f.third))) s.first,
  lowest f.mark1 (f.second + 256 * (f.mark2 + 256 * f.third)) s.mark1,
  higher f.mark1 (f.second + 256 * (f.mark2 + 256 * f.third)) s.mark1,
  lowest f.second (f.mark2 + 256 * f.third) s.second,
  higher f.second (f.mark2 + 256 * f.third) s.second,
  lowest f.mark2 f.third s.mark2,
  higher f.mark2 f.third s.mark2,
  highest f.third s.third,
)

module _ (st : Stamp) where
  mark-byte : (u v m x : ℕ) → further st u v m x ≡ true → m < 256
  mark-byte u v m x h = let r = separator-range m (and_left (separator m) (new_unit u v (unit st x)) h) in omega arith

  field-byte : (u v m x : ℕ) → further st u v m x ≡ true → x < 256
  field-byte u v m x h = let r = field-few st u v x (and_right (separator m) (new_unit u v (unit st x)) h) in omega arith

  fields-bytes : {f : Format} → Fields st f → Bytes f
  fields-bytes (one a n) =
      let r = field-few st 0 0 a n in
      record { first = omega arith; mark1 = omega arith; second = omega arith; mark2 = omega arith; third = omega arith }
  fields-bytes (two a x b n p) =
      let r = field-few st 0 0 a n in
      record { first = omega arith; mark1 = mark-byte (unit st a) 0 x b p; second = field-byte (unit st a) 0 x b p; mark2 = omega arith; third = omega arith }
  fields-bytes (three a x b y c n p q) =
      let r = field-few st 0 0 a n in
      record {
        first = omega arith;
        mark1 = mark-byte (unit st a) 0 x b p;
        second = field-byte (unit st a) 0 x b p;
        mark2 = mark-byte (unit st a) (unit st b) y c q;
        third = field-byte (unit st a) (unit st b) y c q;
      }

  -- a legal format is five bytes
  pub legal-bytes : (f : Format) → legal_format st f ≡ true → Bytes f
  legal-bytes f h = fields-bytes (legal-fields st f h)

  -- and so it is got back
  pub legal-unpacked : (f : Format) → legal_format st f ≡ true → unpacked (packed f) ≡ f
  legal-unpacked f h = unpacked-packed f (legal-bytes f h)
