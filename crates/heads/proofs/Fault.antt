-- Where a line is at fault that no command's letters match: only a line of one byte or two can be a part of a command's letters.
use mathlib.Core.Path.{◌≡◌, ◌∙◌, refl, sym, ap}
use mathlib.Core.Bool.{Bool, true, false, ◌&&◌, ◌||◌}
use mathlib.Core.List.{List, [], ◌∷◌}
use Prim.Native.Nat.{ℕ, ◌≤◌}
use Prim.Native.Char.{Char, code}
use native.Mathlib.Omega.{arith}
use lib.Dec.{leb, ltb, eqb}
use lib.ListN.{length, get_or}
use borrow.Author.Tests.{leb-true, le-ltb, ne_eqb}
use Rattle.grammar.specs.Forms.{Form, forms}
use Rattle.heads.specs.Heads.{letters_of, begins, letters_cut, letters_fault}

-- no command of these forms has more than three letters
abbrev short : List Form → Bool
short [] = true
short (f ∷ fs) = leb (length (letters_of f.fields)) 3 && short fs

cut-long : (fs : List Form) (s : List ℕ) → short fs ≡ true → 3 ≤ length s → letters_cut fs s ≡ false
cut-long [] s h k = refl
cut-long (f ∷ fs) s h k = go (leb (length (letters_of f.fields)) 3) refl h (λ r. cut-long fs s r k)
  where
    go : (t : Bool) → leb (length (letters_of f.fields)) 3 ≡ t → (t && short fs) ≡ true → (short fs ≡ true → letters_cut fs s ≡ false)
        → ((ltb (length s) (length (letters_of f.fields)) && begins s (letters_of f.fields)) || letters_cut fs s) ≡ false
    go true e r i =
        let l = leb-true (length (letters_of f.fields)) 3 e in
        rw (le-ltb (length s) (length (letters_of f.fields)) (omega arith)) (i r)
    go false e r i = absurd (let z : ◌≡◌ {A = ℕ} 0 1 = cc in omega arith)

-- a line that is neither of one byte nor of two is at fault at its first
pub fault-first : (s : List ℕ) → (length s ≡ 2 → ⊥) → (length s ≡ 1 → ⊥) → letters_fault s ≡ 0
unfolding letters_fault
fault-first [] h k = refl
fault-first (a ∷ []) h k = absurd (k refl)
fault-first (a ∷ (b ∷ [])) h k = absurd (h refl)
fault-first (a ∷ (b ∷ (c ∷ cs))) h k = rw (cut-long forms (a ∷ (b ∷ (c ∷ cs))) refl (omega arith))

-- a line of two bytes is these two
two_bytes : (s : List ℕ) → length s ≡ 2 → s ≡ get_or s 0 0 ∷ (get_or s 1 0 ∷ [])
two_bytes [] h = absurd (omega arith)
two_bytes (a ∷ []) h = absurd (omega arith)
two_bytes (a ∷ (b ∷ [])) h = refl
two_bytes (a ∷ (b ∷ (c ∷ cs))) h = absurd (omega arith)

-- it is at fault as these two alone are
pub fault-two : (s : List ℕ) (a b : ℕ) → length s ≡ 2 → a ≡ get_or s 0 0 → b ≡ get_or s 1 0 → letters_fault s ≡ letters_fault (a ∷ (b ∷ []))
fault-two s a b h i j = ap letters_fault (two_bytes s h) ∙ (λ t. letters_fault (sym i t ∷ (sym j t ∷ [])))

-- two bytes that are not the L and the S in front of a third letter are at fault at the first
pub fault-no-line : (a b : ℕ) → (a ≡ code "L" → ⊥) → letters_fault (a ∷ (b ∷ [])) ≡ 0
unfolding letters_fault
fault-no-line a b h = rw (ne_eqb (code "L") a (λ e. h (sym e)))

pub fault-no-slant : (b : ℕ) → (b ≡ code "S" → ⊥) → letters_fault (code "L" ∷ (b ∷ [])) ≡ 0
unfolding letters_fault
fault-no-slant b h = rw (ne_eqb (code "S") b (λ e. h (sym e)))

-- a line of one byte is that byte
one_byte : (s : List ℕ) → length s ≡ 1 → s ≡ get_or s 0 0 ∷ []
one_byte [] h = absurd (omega arith)
one_byte (a ∷ []) h = refl
one_byte (a ∷ (b ∷ bs)) h = absurd (omega arith)

-- a line of one byte is at fault as that byte alone is
pub fault-one : (s : List ℕ) (a : ℕ) → length s ≡ 1 → get_or s 0 0 ≡ a → letters_fault s ≡ letters_fault (a ∷ [])
fault-one s a h e = ap letters_fault (one_byte s h ∙ ap (λ (b : ℕ). b ∷ []) e)

-- a byte that starts no command of two letters or three is itself at fault
pub fault-other : (a : ℕ) → (a ≡ code "Z" → ⊥) → (a ≡ code "L" → ⊥) → (a ≡ code "G" → ⊥) → (a ≡ code "F" → ⊥) → (a ≡ code "V" → ⊥) → (a ≡ code "?" → ⊥) → (a ≡ code "T" → ⊥)
    → letters_fault (a ∷ []) ≡ 0
unfolding letters_fault
fault-other a z l g f v q t = simp (other "Z" z, other "L" l, other "G" g, other "F" f, other "V" v, other "?" q, other "T" t)
  where
    other : (c : Char) → (a ≡ code c → ⊥) → eqb (code c) a ≡ false
    other c h = ne_eqb (code c) a (λ e. h (sym e))
