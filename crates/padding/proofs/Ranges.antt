-- Laws of `between` and `all_in`: a range's ends, and a test over parts of a list and over lists joined.
use mathlib.Core.Path.{◌≡◌, refl}
use mathlib.Core.Bool.{Bool, true}
use mathlib.Core.List.{List, [], ◌∷◌, ◌++◌}
use mathlib.Core.Logic.{◌⊎◌, inl, inr}
use Prim.Native.Nat.{ℕ, zero, suc, ◌≤◌}
use native.Mathlib.Omega.{arith}
use lib.ListN.{length, take, drop, replicate}
use lib.Dec.{leb}
use borrow.Author.Tests.{le-leb, leb-true}
use Rattle.ground.proofs.Tests.{and_left, and_right, and_both}
use Rattle.kinds.specs.Bytes.{between, all_in}

-- ---- `between`

pub in-range : (lo hi b : ℕ) → lo ≤ b → b ≤ hi → between lo hi b ≡ true
unfolding between
in-range lo hi b h k = simp (le-leb lo b h, le-leb b hi k)

pub range-low : (lo hi b : ℕ) → between lo hi b ≡ true → lo ≤ b
unfolding between
range-low lo hi b e = leb-true lo b (and_left (leb lo b) (leb b hi) e)

pub range-high : (lo hi b : ℕ) → between lo hi b ≡ true → b ≤ hi
unfolding between
range-high lo hi b e = leb-true b hi (and_right (leb lo b) (leb b hi) e)

-- ---- `all_in`

pub all_take : (q : ℕ → Bool) (n : ℕ) (l : List ℕ) → all_in q l ≡ true → all_in q (take n l) ≡ true
all_take q zero l h = refl
all_take q (suc n) [] h = refl
all_take q (suc n) (x ∷ l) h =
    and_both (q x) (all_in q (take n l)) (and_left (q x) (all_in q l) h) (all_take q n l (and_right (q x) (all_in q l) h))

pub all_drop : (q : ℕ → Bool) (n : ℕ) (l : List ℕ) → all_in q l ≡ true → all_in q (drop n l) ≡ true
all_drop q zero l h = h
all_drop q (suc n) [] h = refl
all_drop q (suc n) (x ∷ l) h = all_drop q n l (and_right (q x) (all_in q l) h)

pub all_join : (q : ℕ → Bool) (a b : List ℕ) → all_in q a ≡ true → all_in q b ≡ true → all_in q (a ++ b) ≡ true
all_join q [] b h k = k
all_join q (x ∷ a) b h k =
    and_both (q x) (all_in q (a ++ b)) (and_left (q x) (all_in q a) h) (all_join q a b (and_right (q x) (all_in q a) h) k)

pub all_first : (q : ℕ → Bool) (a b : List ℕ) → all_in q (a ++ b) ≡ true → all_in q a ≡ true
all_first q [] b h = refl
all_first q (x ∷ a) b h =
    and_both (q x) (all_in q a) (and_left (q x) (all_in q (a ++ b)) h) (all_first q a b (and_right (q x) (all_in q (a ++ b)) h))

pub all-second : (q : ℕ → Bool) (a b : List ℕ) → all_in q (a ++ b) ≡ true → all_in q b ≡ true
all-second q [] b h = h
all-second q (x ∷ a) b h = all-second q a b (and_right (q x) (all_in q (a ++ b)) h)

pub all_none : (q : ℕ → Bool) (l : List ℕ) → length l ≡ 0 → all_in q l ≡ true
all_none q [] h = refl
all_none q (x ∷ l) h = absurd (omega arith)

pub all-wider : (q r : ℕ → Bool) (l : List ℕ) → ((b : ℕ) → q b ≡ true → r b ≡ true) → all_in q l ≡ true → all_in r l ≡ true
all-wider q r [] w h = refl
all-wider q r (x ∷ l) w h =
    and_both (r x) (all_in r l) (w x (and_left (q x) (all_in q l) h)) (all-wider q r l w (and_right (q x) (all_in q l) h))

pub all_replicate : (q : ℕ → Bool) (n x : ℕ) → q x ≡ true → all_in q (replicate n x) ≡ true
all_replicate q zero x h = refl
all_replicate q (suc n) x h = and_both (q x) (all_in q (replicate n x)) h (all_replicate q n x h)

pub replicate-some : (q : ℕ → Bool) (n x : ℕ) → all_in q (replicate n x) ≡ true → (n ≡ 0) ⊎ (q x ≡ true)
replicate-some q zero x h = inl refl
replicate-some q (suc n) x h = inr (and_left (q x) (all_in q (replicate n x)) h)
