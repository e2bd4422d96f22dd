-- The passes over a font, a row or a field at a time: what is left from here on is what there was from the start on.
-- Assumes nothing.
use mathlib.Core.Path.{◌≡◌, refl, sym, ap, ◌∙◌}
use mathlib.Core.Bool.{Bool, true, false, cond, ◌&&◌}
use mathlib.Core.List.{List}
use Prim.Native.Nat.{ℕ, zero, suc, ◌+◌, ◌-◌, ◌*◌, ◌%◌, ◌^◌, ◌≤◌, ◌<◌}
use native.Mathlib.Nat.{one-mul, mod-eq_of_lt, pow-le-pow_right, mul-le-mul}
use native.Mathlib.Decide.{ℕ_discrete}
use native.Mathlib.Omega.{arith}
use lib.Bits.{bit_and, and_mask}
use lib.ListN.{length, get_or, set, take, drop, replicate, length-set, length-replicate}
use lib.Seq.{get_or-set_same, get_or-set_other}
use lib.Dec.{eqb}
use borrow.Author.Tests.{eq-eqb, ne_eqb}
use Rattle.font.specs.Rules.{tag_at, code_at, next_field, cell_height, row_bytes, spare_bits, row_clean, rows_clean, is_glyph, glyph, ended, fields_from, place_from, rows_of, Places}

one_less : {A : Type 0} {x : A} (f : ℕ → A) (n : ℕ) → 0 < n → x ≡ f (suc (n - 1)) → x ≡ f n
one_less f n h e = let z : suc (n - 1) ≡ n = omega arith in e ∙ ap f z

pub both_so : (a b r : Bool) → a ≡ true → r ≡ b → r ≡ (a && b)
both_so a b r e f = f ∙ rw e

-- a byte's low bits
pub unit-is : (k : ℕ) → k < 8 → 1 * 2 ^ k % 18446744073709551616 ≡ 2 ^ k
unit-is k h =
    let e : 2 ^ k ≤ 2 ^ 7 = pow-le-pow_right (omega arith) {i = k} {j = 7} (omega arith) in
    rw one-mul (mod-eq_of_lt (omega arith))

-- two numbers of a byte, multiplied
pub bytes_product : (a b : ℕ) → a < 256 → b < 256 → a * b ≤ 65025
bytes_product a b h k = mul-le-mul {n₁ = a} {m₁ = b} {n₂ = 255} {m₂ = 255} (omega arith) (omega arith)

module _ (font : List ℕ) where
  -- ---- rows
  -- a row's last byte, masked
  pub row-masked : (b bytes mask at : ℕ) → bytes ≡ row_bytes font → mask ≡ 2 ^ spare_bits font - 1 → b ≡ get_or font (at + bytes - 1) 0
      → eqb (bit_and b mask) 0 ≡ row_clean font at
  row-masked b bytes mask at e m d =
      (λ i. eqb (bit_and (d i) (m i)) 0)
      ∙ ap (λ (n : ℕ). eqb n 0) (and_mask (get_or font (at + bytes - 1) 0) (spare_bits font))
      ∙ ap (λ (n : ℕ). eqb (get_or font (at + n - 1) 0 % 2 ^ spare_bits font) 0) e

  pub rows_step : (n at : ℕ) → 0 < n → row_clean font at ≡ true → rows_clean font (n - 1) (at + row_bytes font) ≡ rows_clean font n at
  unfolding rows_clean
  rows_step n at h e = one_less (λ (m : ℕ). rows_clean font m at) n h (rw e)

  pub rows-stop : (n at : ℕ) → 0 < n → row_clean font at ≡ false → false ≡ rows_clean font n at
  unfolding rows_clean
  rows-stop zero at h e = absurd (omega arith)
  rows-stop (suc n) at h e = rw e

  pub rows-done : (n at : ℕ) → n ≤ 0 → true ≡ rows_clean font n at
  unfolding rows_clean
  rows-done zero at h = refl
  rows-done (suc n) at h = absurd (omega arith)

  -- ---- fields
  pub fields-step : (n last at : ℕ) → 0 < n → eqb (tag_at font at) 255 ≡ false → glyph font last at ≡ true
      → fields_from font (n - 1) (code_at font at) (next_field font at) ≡ fields_from font n last at
  unfolding fields_from
  fields-step n last at h d e = one_less (λ (m : ℕ). fields_from font m last at) n h (rw (d, e))

  pub fields-end : (n last at : ℕ) → 0 < n → eqb (tag_at font at) 255 ≡ true → ended font at ≡ fields_from font n last at
  unfolding fields_from
  fields-end zero last at h d = absurd (omega arith)
  fields-end (suc n) last at h d = rw d

  pub fields-stop : (n last at : ℕ) → 0 < n → eqb (tag_at font at) 255 ≡ false → glyph font last at ≡ false → false ≡ fields_from font n last at
  unfolding fields_from
  fields-stop zero last at h d e = absurd (omega arith)
  fields-stop (suc n) last at h d e = rw (d, e)

  pub fields-none : (n last at : ℕ) → n ≤ 0 → false ≡ fields_from font n last at
  unfolding fields_from
  fields-none zero last at h = refl
  fields-none (suc n) last at h = absurd (omega arith)

  -- ---- the place of a code
  module _ (code : ℕ) where
    pub place-step : (n at : ℕ) → 0 < n → is_glyph font at ≡ true → eqb (code_at font at) code ≡ false
        → place_from font code (n - 1) (next_field font at) ≡ place_from font code n at
    unfolding place_from
    place-step n at h d e = one_less (λ (m : ℕ). place_from font code m at) n h (rw (d, e))

    pub place_here : (n at : ℕ) → 0 < n → is_glyph font at ≡ true → eqb (code_at font at) code ≡ true → at + 4 ≡ place_from font code n at
    unfolding place_from
    place_here zero at h d e = absurd (omega arith)
    place_here (suc n) at h d e = rw (d, e)

    pub place_end : (n at : ℕ) → 0 < n → is_glyph font at ≡ false → length font ≡ place_from font code n at
    unfolding place_from
    place_end zero at h d = absurd (omega arith)
    place_end (suc n) at h d = rw d

    pub place_none : (n at : ℕ) → n ≤ 0 → length font ≡ place_from font code n at
    unfolding place_from
    place_none zero at h = refl
    place_none (suc n) at h = absurd (omega arith)

  -- ---- the places of all codes
  zeros : (n i : ℕ) → ◌≡◌ {A = ℕ} (get_or (replicate n 0) i 0) 0
  zeros zero i = refl
  zeros (suc n) zero = refl
  zeros (suc n) (suc i) = zeros n i

  pub places-start : Places font (replicate 256 0) 95 5
  places-start = record { all = length-replicate {A = ℕ} 256 0; right = λ code h. rw (zeros 256 code) }

  module _ (ps : List ℕ) (n at : ℕ) (p : Places font ps n at) where
    -- one field more, noted
    pub places-step : (qs : List ℕ) → 0 < n → is_glyph font at ≡ true → code_at font at < 256
        → qs ≡ cond (eqb (get_or ps (code_at font at) 0) 0) (set ps (code_at font at) (at + 4)) ps → Places font qs (n - 1) (next_field font at)
    places-step qs h g k e =
        record {
          all = ap length e ∙ long (eqb (get_or ps here 0) 0);
          right = λ code l.
              ap (λ (r : List ℕ). cond (eqb (get_or r code 0) 0) (place_from font code (n - 1) (next_field font at)) (get_or r code 0)) e
              ∙ noted code l (ℕ_discrete code here) (eqb (get_or ps here 0) 0) refl;
        }
      where
        here : ℕ
        here = code_at font at

        after : Bool → List ℕ
        after b = cond b (set ps here (at + 4)) ps

        long : (b : Bool) → length (after b) ≡ 256
        long true = length-set ps here (at + 4) ∙ p.all
        long false = p.all

        other : (b : Bool) (code : ℕ) → (code ≡ here → ⊥) → get_or (after b) code 0 ≡ get_or ps code 0
        other true code m = get_or-set_other ps here code (at + 4) 0 m
        other false code m = refl

        noted : (code : ℕ) → code < 256 → Dec (code ≡ here) → (b : Bool) → eqb (get_or ps here 0) 0 ≡ b
            → cond (eqb (get_or (after b) code 0) 0) (place_from font code (n - 1) (next_field font at)) (get_or (after b) code 0) ≡ place_from font code 95 5
        noted code l (yes q) true d =
            let v : get_or (set ps here (at + 4)) code 0 ≡ at + 4 =
            ap (λ (m : ℕ). get_or (set ps here (at + 4)) m 0) q ∙ get_or-set_same ps here (at + 4) 0 (omega (arith, p.all)) in
            rw (v, ne_eqb (at + 4) 0 (λ z. omega arith))
            (place_here here n at h g (eq-eqb here here refl) ∙ rw d at (p.right here k) ∙ ap (λ (m : ℕ). place_from font m 95 5) (sym q))
        noted code l (yes q) false d =
            let f : eqb (get_or ps code 0) 0 ≡ false = ap (λ (m : ℕ). eqb (get_or ps m 0) 0) q ∙ d in
            rw f (rw f at (p.right code l))
        noted code l (no q) b d =
            rw (other b code q)
            (ap (λ (m : ℕ). cond (eqb (get_or ps code 0) 0) m (get_or ps code 0)) (place-step code n at h g (ne_eqb here code (λ z. q (sym z))))
            ∙ p.right code l)

    at-end : (code : ℕ) → code < 256 → length font ≡ place_from font code n at
        → cond (eqb (get_or ps code 0) 0) (place_from font code 0 0) (get_or ps code 0) ≡ place_from font code 95 5
    unfolding place_from
    at-end code k d = ap (λ (m : ℕ). cond (eqb (get_or ps code 0) 0) m (get_or ps code 0)) d ∙ p.right code k

    pub places-end : 0 < n → is_glyph font at ≡ false → Places font ps 0 0
    places-end h g = record { all = p.all; right = λ code k. at-end code k (place_end code n at h g) }

    pub places-done : n ≤ 0 → Places font ps 0 0
    places-done h = record { all = p.all; right = λ code k. at-end code k (place_none code n at h) }

  pub places-rows : (ps : List ℕ) → Places font ps 0 0 → (code : ℕ) (r : List ℕ) → code < 256
      → r ≡ take (cell_height font * row_bytes font) (drop (cond (eqb (get_or ps code 0) 0) (length font) (get_or ps code 0)) font) → r ≡ rows_of font code
  unfolding place_from rows_of
  places-rows ps p code r h e = e ∙ ap (λ (m : ℕ). take (cell_height font * row_bytes font) (drop m font)) (p.right code h)

-- how long a text can be, and how wide and high a cell
pub byte-times : (a b k : ℕ) → a < 256 → b ≤ k → a * b ≤ 255 * k
byte-times a b k g h = mul-le-mul {n₁ = a} {m₁ = b} {n₂ = 255} {m₂ = k} (omega arith) h

pub text-times : (n m k : ℕ) → n ≤ 128 → m ≤ k → n * m ≤ 128 * k
text-times n m k g h = mul-le-mul {n₁ = n} {m₁ = m} {n₂ = 128} {m₂ = k} g h
