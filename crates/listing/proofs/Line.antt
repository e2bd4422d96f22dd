-- A line put together from its parts.
use mathlib.Core.Path.{◌≡◌, refl, sym, ap, ◌∙◌}
use mathlib.Core.List.{List, [], ◌∷◌}
use Prim.Native.Nat.{ℕ, suc, ◌+◌, ◌≤◌, min}
use native.Mathlib.Omega.{arith}
use lib.ListN.{length, set, take, length-take, length-append}
use lib.Seq.{sets}
use Rattle.cells.proofs.Sets.{sets-front}
use Rattle.store.specs.Entry.{name_length, name, size}
use Rattle.writing.specs.Writing.{decimal}
use Rattle.ground.proofs.Stores.{sets-append}
use Rattle.listing.specs.Listing.{comma_name, listing_line}
use Rattle.listing.proofs.Decimal.{decimal-short}

pub length-name : (e : List ℕ) → length (name e) ≡ 8
unfolding name
length-name e = refl

module _ (e : List ℕ) (at n k : ℕ) (en : n ≡ name_length e) (ek : k ≡ min n 8) where
  taken : k ≡ length (take (name_length e) (name e))
  taken = omega (arith, length-take (name_length e) (name e), length-name e)

  pub name-place : at + 2 + k + 2 ≡ at + length (comma_name e)
  name-place = omega (arith, taken, length-append (take (name_length e) (name e)) (34 ∷ 10 ∷ []))

  pub name-stored : (bytes front l l₁ l₂ l₃ l₄ l₅ : List ℕ) → bytes ≡ name e → front ≡ take n bytes
      → l₁ ≡ set l at 44 → l₂ ≡ set l₁ (at + 1) 34 → l₃ ≡ sets l₂ (at + 2) front → l₄ ≡ set l₃ (at + 2 + k) 34 → l₅ ≡ set l₄ (at + 2 + k + 1) 10
      → l₅ ≡ sets l at (comma_name e)
  name-stored bytes front l l₁ l₂ l₃ l₄ l₅ eb ef e₁ e₂ e₃ e₄ e₅ =
      let p₁ : at + 1 ≡ suc at = omega arith in
      let p₂ : at + 2 ≡ suc (suc at) = omega arith in
      let q : at + 2 + k ≡ suc (suc at) + length (take (name_length e) (name e)) = omega (arith, taken) in
      let q₁ : at + 2 + k + 1 ≡ suc (suc (suc at) + length (take (name_length e) (name e))) = omega (arith, taken) in
      let f : front ≡ take (name_length e) (name e) = ef ∙ rw (en, eb) in
      let s₂ : l₂ ≡ set (set l at 44) (suc at) 34 = e₂ ∙ rw (e₁, p₁) in
      let s₃ : l₃ ≡ sets (set (set l at 44) (suc at) 34) (suc (suc at)) (take (name_length e) (name e)) = e₃ ∙ rw (s₂, p₂, f) in
      let s₄ : l₄ ≡ set (sets (set (set l at 44) (suc at) 34) (suc (suc at)) (take (name_length e) (name e))) (suc (suc at) + length (take (name_length e) (name e))) 34
      = e₄ ∙ rw (q, s₃) in
      e₅ ∙ rw (q₁, s₄) (sym (sets-append (set (set l at 44) (suc at) 34) (suc (suc at)) (take (name_length e) (name e)) (34 ∷ 10 ∷ [])))

-- ---- a whole line

pub line-short : (e : List ℕ) → length (listing_line e) ≤ 32
unfolding listing_line
line-short e = omega (
  arith,
  length-append (decimal (size e)) (comma_name e),
  decimal-short (size e),
  length-append (take (name_length e) (name e)) (34 ∷ 10 ∷ []),
  length-take (name_length e) (name e),
  length-name e,
)

module _ (e l : List ℕ) (n m : ℕ) (room : length l ≡ 32) (size_is : m ≡ size e) (place : n ≡ min (0 + length (decimal m)) (length l)) where
  all : n ≡ length (decimal (size e))
  all = rw (← size_is) (omega (arith, decimal-short m))

  pub line-place : (r : ℕ) → r ≡ n + length (comma_name e) → r ≡ length (listing_line e)
  unfolding listing_line
  line-place r h = h ∙ ap (λ (k : ℕ). k + length (comma_name e)) all ∙ sym (length-append (decimal (size e)) (comma_name e))

  pub line-stored : (l₁ l₂ : List ℕ) → l₁ ≡ sets l 0 (decimal m) → l₂ ≡ sets l₁ n (comma_name e) → l₂ ≡ sets l 0 (listing_line e)
  unfolding listing_line
  line-stored l₁ l₂ h₁ h₂ =
      let s : l₁ ≡ sets l 0 (decimal (size e)) = h₁ ∙ rw size_is in
      let z : n ≡ 0 + length (decimal (size e)) = omega (arith, all) in
      h₂ ∙ rw (s, z) (sym (sets-append l 0 (decimal (size e)) (comma_name e)))

-- a line that went by way of a buffer
pub line-moved : (e buffer line front out out₁ : List ℕ) (at n : ℕ) → length buffer ≡ 32 → n ≡ length (listing_line e)
    → line ≡ sets buffer 0 (listing_line e) → front ≡ take n line → out₁ ≡ sets out at front → out₁ ≡ sets out at (listing_line e)
line-moved e buffer line front out out₁ at n b en el ef eo =
    let k : length (listing_line e) ≤ length buffer = omega (arith, line-short e) in
    let f : front ≡ listing_line e = ef ∙ rw (en, el) (sets-front buffer (listing_line e) k) in
    eo ∙ ap (sets out at) f
