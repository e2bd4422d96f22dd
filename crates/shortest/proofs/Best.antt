-- Laws of `step` and `best`: what each turn takes, and how far apart the lengths are.
-- Assumes nothing.
use mathlib.Core.Path.{◌≡◌, refl, ap}
use mathlib.Core.Bool.{Bool, true, false}
use mathlib.Core.List.{List, [], ◌∷◌}
use Prim.Native.Nat.{ℕ, suc, ◌+◌, ◌≤◌, ◌<◌}
use native.Mathlib.Omega.{arith}
use native.Mathlib.Nat.{add-zero}
use native.Mathlib.Numerals.{add-one}
use lib.ListN.{length, get_or, drop}
use lib.Seq.{drop-cons, get_or-drop}
use lib.Dec.{ltb}
use borrow.Author.Tests.{ltb-true, ltb-false}
use Rattle.shortest.specs.Writing.{byte_of, pair_of}
use Rattle.shortest.specs.Found.{Best, two, leaves_b, step, best}

-- the three turns: two digits and a change to set C, two digits and a byte in set B, no two digits
pub data Turn (a b : ℕ) (r : Best) : Type 0 where
  changed : two a b ≡ true → length r.later + 1 < length r.in_b → leaves_b a b r ≡ true
      → (step a b r).in_b ≡ 99 ∷ pair_of a b ∷ r.later → (step a b r).in_c ≡ pair_of a b ∷ r.later → Turn a b r
  stayed : two a b ≡ true → length r.in_b ≤ length r.later + 1 → leaves_b a b r ≡ false
      → (step a b r).in_b ≡ byte_of a ∷ r.in_b → (step a b r).in_c ≡ pair_of a b ∷ r.later → Turn a b r
  alone : two a b ≡ false → leaves_b a b r ≡ false
      → (step a b r).in_b ≡ byte_of a ∷ r.in_b → (step a b r).in_c ≡ 100 ∷ byte_of a ∷ r.in_b → Turn a b r

pub turn : (a b : ℕ) (r : Best) → Turn a b r
unfolding step leaves_b
turn a b r = go (two a b) (ltb (length r.later + 1) (length r.in_b)) refl refl
  where
    go : (w t : Bool) → two a b ≡ w → ltb (length r.later + 1) (length r.in_b) ≡ t → Turn a b r
    go true true e f = changed e (ltb-true _ _ f) (rw (e, f)) (rw (e, f)) (rw e)
    go true false e f = stayed e (ltb-false _ _ f) (rw (e, f)) (rw (e, f)) (rw e)
    go false t e f = alone e (rw e) (rw e) (rw e)

-- ---- how far apart the lengths are; from `l-b` it follows that in set C a pair is never worse than the change to B

pub record Near (r : Best) : Type 0 where
  pub b-c : length r.in_b ≤ length r.in_c + 1
  pub c-b : length r.in_c ≤ length r.in_b + 1
  pub l-b : length r.later ≤ length r.in_b + 1
  pub b-l : length r.in_b ≤ length r.later + 2

near_step : (a b : ℕ) (r : Best) → Near r → Near (step a b r)
unfolding step
near_step a b r n = go (turn a b r)
  where
    go : Turn a b r → Near (step a b r)
    go (changed w l t p q) = let m = ap length p in let k = ap length q in omega arith
    go (stayed w l t p q) = let m = ap length p in let k = ap length q in omega arith
    go (alone w t p q) = let m = ap length p in let k = ap length q in omega arith

pub near : (s : List ℕ) → Near (best s)
unfolding best
near [] = omega arith
near (a ∷ s) = near_step a (get_or s 0 0) (best s) (near s)

-- ---- at most as many symbols in set B as bytes

pub few : (s : List ℕ) → length (best s).in_b ≤ length s
unfolding best
few [] = omega arith
few (a ∷ s) = go (turn a (get_or s 0 0) (best s)) (few s)
  where
    go : Turn a (get_or s 0 0) (best s) → length (best s).in_b ≤ length s → length (step a (get_or s 0 0) (best s)).in_b ≤ suc (length s)
    go (changed w l t p q) h = let m = ap length p in omega arith
    go (stayed w l t p q) h = let m = ap length p in omega arith
    go (alone w t p q) h = let m = ap length p in omega arith

-- ---- `best` along data

pub best-at : (s : List ℕ) (i : ℕ) → i < length s → best (drop i s) ≡ step (get_or s i 0) (get_or s (i + 1) 0) (best (drop (i + 1) s))
unfolding best
best-at s i h = rw (drop-cons s i 0 h, get_or-drop (suc i) s 0 0, add-zero (suc i), add-one i)

pub best-later : (s : List ℕ) → (best s).later ≡ (best (drop 1 s)).in_c
unfolding best step
best-later [] = refl
best-later (a ∷ s) = refl
