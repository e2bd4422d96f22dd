-- Runs of stores, `sets` of the library: one element more, and what stands where afterwards.
use mathlib.Core.Path.{◌≡◌, refl, sym, ap, ◌∙◌}
use mathlib.Core.List.{List, [], ◌∷◌, ◌++◌}
use Prim.Native.Nat.{ℕ, zero, suc, ◌+◌, ◌≤◌, ◌<◌}
use native.Mathlib.Omega.{arith}
use native.Mathlib.Nat.{add-zero}
use lib.ListN.{length, get_or, set, take, drop, length-set}
use lib.Seq.{sets, sets-eq, take_at, take-nil, get_or-set_same, get_or-set_other}
use Rattle.ground.proofs.Stores.{sets-out}

-- one more element is one more store
pub sets-snoc : (l : List ℕ) (i : ℕ) (vs : List ℕ) (a : ℕ) → sets l i (vs ++ (a ∷ [])) ≡ set (sets l i vs) (i + length vs) a
sets-snoc l i [] a = rw (add-zero i)
sets-snoc l i (v ∷ vs) a = sets-snoc (set l i v) (suc i) vs a ∙ ap (λ (k : ℕ). set (sets (set l i v) (suc i) vs) k a) (let e : suc i + length vs ≡ i + suc (length vs) = omega arith in e)

-- what was stored at the front is read there
pub sets-front : (l vs : List ℕ) → length vs ≤ length l → take (length vs) (sets l 0 vs) ≡ vs
sets-front l vs h = ap (take (length vs)) (sets-eq vs l 0 (omega arith)) ∙ take_at vs (drop (0 + length vs) l) (length vs) refl

-- what stands before, behind and in the run
pub sets_below : (l : List ℕ) (a : ℕ) (m : List ℕ) (i : ℕ) → i < a → get_or (sets l a m) i 0 ≡ get_or l i 0
sets_below l a [] i h = refl
sets_below l a (x ∷ m) i h = sets_below (set l a x) (suc a) m i (omega arith) ∙ get_or-set_other l a i x 0 (λ e. omega arith)

pub sets-above : (l : List ℕ) (a : ℕ) (m : List ℕ) (i : ℕ) → a + length m ≤ i → get_or (sets l a m) i 0 ≡ get_or l i 0
sets-above l a [] i h = refl
sets-above l a (x ∷ m) i h = sets-above (set l a x) (suc a) m i (omega arith) ∙ get_or-set_other l a i x 0 (λ e. omega arith)

pub sets-in : (l : List ℕ) (a : ℕ) (m : List ℕ) (i : ℕ) → i < length m → a + i < length l → get_or (sets l a m) (a + i) 0 ≡ get_or m i 0
sets-in l a [] i h b = absurd (omega arith)
sets-in l a (x ∷ m) zero h b =
    rw (add-zero a) (sets_below (set l a x) (suc a) m a (omega arith) ∙ get_or-set_same l a x 0 (omega arith))
sets-in l a (x ∷ m) (suc i) h b =
    ap (λ (k : ℕ). get_or (sets (set l a x) (suc a) m) k 0) (let e : a + suc i ≡ suc a + i = omega arith in e)
    ∙ sets-in (set l a x) (suc a) m i (omega arith) (omega (arith, length-set l a x))

-- what does not fit need not be stored
pub sets-take : (l : List ℕ) (i n : ℕ) (vs : List ℕ) → length l ≤ i + n → sets l i (take n vs) ≡ sets l i vs
sets-take l i n [] h = ap (sets l i) (take-nil n)
sets-take l i zero (v ∷ vs) h = sym (sets-out l i (v ∷ vs) (omega arith))
sets-take l i (suc n) (v ∷ vs) h = sets-take (set l i v) (suc i) n vs (omega (arith, length-set l i v))
