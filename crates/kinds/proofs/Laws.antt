-- Laws of `between`, `all_in`, `in_class` and `fit`.
use mathlib.Core.Path.{◌≡◌, refl, sym}
use mathlib.Core.Bool.{Bool, true, false, and-false}
use mathlib.Core.List.{List, [], ◌∷◌}
use Rattle.std.specs.Bool.{MatchBool}
use Rattle.std.specs.List.{AllWithin, HoldsAt}
use Prim.Native.Char.{code}
use Prim.Native.Nat.{ℕ, zero, suc, ◌+◌, ◌≤◌, ◌<◌, suc-le-suc}
use native.Mathlib.Nat.{not-suc-le-zero, le_of_suc-le-suc}
use native.Mathlib.Omega.{arith}
use native.Mathlib.Numerals.{add-one}
use lib.ListN.{length, get_or, drop, drop_of_length-le}
use lib.Seq.{drop-cons}
use lib.Dec.{leb}
use borrow.Author.Tests.{le-leb, lt-leb, leb-true}
use Rattle.ground.proofs.Tests.{and-true, or-first, or-second}
use Rattle.kinds.specs.declared.Kind.{Kind}
use Rattle.kinds.specs.declared.Kind.TheVariants.{Code39}
use Rattle.kinds.specs.Bytes.{between, is_digit, all_in}
use Rattle.kinds.specs.Fit.{in_class, fit_length, fit}

-- ---- `between`

pub between-below : (lo hi b : ℕ) → b < lo → between lo hi b ≡ false
unfolding between
between-below lo hi b h = simp (lt-leb lo b h)

pub between-from : (lo hi b : ℕ) → lo ≤ b → between lo hi b ≡ leb b hi
unfolding between
between-from lo hi b h = simp (le-leb lo b h)

pub between-facts : (lo hi b : ℕ) → between lo hi b ≡ true → (lo ≤ b) × (b ≤ hi)
unfolding between
between-facts lo hi b h = let k = and-true (leb lo b) (leb b hi) h in (leb-true lo b k.0, leb-true b hi k.1)

-- ---- `all_in`, along a list

pub all_more : (q : ℕ → Bool) (s : List ℕ) (i : ℕ) → i < length s → q (get_or s i 0) ≡ true → all_in q (drop i s) ≡ all_in q (drop (i + 1) s)
all_more q s i h e = rw (add-one, drop-cons s i 0 h, e)

pub all_end : (q : ℕ → Bool) (s : List ℕ) (i : ℕ) → length s ≤ i → all_in q (drop i s) ≡ true
all_end q s i h = rw (drop_of_length-le s h)

each : (q : ℕ → Bool) (s : List ℕ) → AllWithin (λ b. q b ≡ true) s 0 (length s) → all_in q s ≡ true
each q [] h = refl
each q (b ∷ bs) h = rw (h 0 0 (omega arith) (omega arith)) (each q bs (λ k d _ t. h (suc k) d (omega arith) (suc-le-suc t)))

one_not : (q : ℕ → Bool) (s : List ℕ) (k : ℕ) → k < length s → q (get_or s k 0) ≡ false → all_in q s ≡ false
one_not q [] k h e = absurd (not-suc-le-zero h)
one_not q (b ∷ bs) zero h e = rw e
one_not q (b ∷ bs) (suc k) h e = rw (one_not q bs k (le_of_suc-le-suc h) e) (and-false (q b))

-- what `all` of a slice's bytes answers
pub all_in-answer : (q : ℕ → Bool) (s : List ℕ) (r : Bool) → MatchBool r (AllWithin (λ b. q b ≡ true) s 0 (length s)) ((k : ℕ) × (k < length s) × HoldsAt (λ b. q b ≡ false) s k)
    → r ≡ all_in q s
all_in-answer q s true h = sym (each q s h)
all_in-answer q s false h = sym (one_not q s h.0 h.1 (h.2 0))

-- ---- `in_class`

pub letter-39 : (b : ℕ) → between (code "A") (code "Z") b ≡ true → in_class Code39 b ≡ true
unfolding in_class
letter-39 b h = or-second (is_digit b) _ (or-first (between (code "A") (code "Z") b) _ h)

-- ---- `fit`

pub fit_length_lem : (k : Kind) (l : List ℕ) → fit_length k (length l) ≡ true → fit k l ≡ all_in (in_class k) l
unfolding fit
fit_length_lem k l e = rw e
