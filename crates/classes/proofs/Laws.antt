-- Laws on bytes and runs.
use mathlib.Core.Path.{◌≡◌, ◌∙◌, refl, sym}
use mathlib.Core.Bool.{Bool, true, false, cond, ◌&&◌, not, and-false, false≢true}
use mathlib.Core.List.{List, [], ◌∷◌}
use Prim.Native.Nat.{ℕ, zero, suc, ◌+◌, ◌-◌, ◌≤◌, ◌<◌}
use native.Mathlib.Numerals.{add-one}
use native.Mathlib.Omega.{arith}
use native.Mathlib.Decide.{ℕ_discrete, dec_lt}
use lib.Dec.{T, leb, eqb}
use lib.ListN.{length, get_or, drop, length-drop, drop_of_length-le, get_or-eq_default}
use lib.Seq.{drop-cons}
use borrow.Author.Tests.{le-leb, lt-leb, leb-true, ne_eqb}
use Rattle.kinds.specs.Bytes.{between}
use Rattle.classes.specs.Bytes.{in_class, run}
use Rattle.classes.specs.declared.Class.{Class}

pub in-range : (lo hi b : ℕ) → lo ≤ b → b ≤ hi → between lo hi b ≡ true
unfolding between
in-range lo hi b h k = simp (le-leb lo b h, le-leb b hi k)

pub below-range : (lo hi b : ℕ) → b < lo → between lo hi b ≡ false
unfolding between
below-range lo hi b h = simp (lt-leb lo b h)

pub above-range : (lo hi b : ℕ) → hi < b → between lo hi b ≡ false
unfolding between
above-range lo hi b h = simp (lt-leb b hi h, and-false)

-- of a true &&, the right side
and_right : (a b : Bool) → (a && b) ≡ true → b ≡ true
and_right true b e = e
and_right false b e = absurd (false≢true e)

pub in-range-high : (lo hi b : ℕ) → between lo hi b ≡ true → b ≤ hi
unfolding between
in-range-high lo hi b e = leb-true b hi (and_right (leb lo b) (leb b hi) e)

-- a run goes on past a byte of its kind, ends at another, and at the end
pub run_more : (k : Class) (s : List ℕ) (i : ℕ) → i < length s → in_class k (get_or s i 0) ≡ true
    → run k (drop i s) ≡ suc (run k (drop (i + 1) s))
unfolding run
run_more k s i h e = rw (add-one, drop-cons s i 0 h, e)

pub run-stop : (k : Class) (s : List ℕ) (i : ℕ) → i < length s → in_class k (get_or s i 0) ≡ false → run k (drop i s) ≡ 0
unfolding run
run-stop k s i h e = rw (drop-cons s i 0 h, e)

pub run_end : (k : Class) (s : List ℕ) (i : ℕ) → length s ≤ i → run k (drop i s) ≡ 0
unfolding run
run_end k s i h = rw (drop_of_length-le s h)

-- what stands past the end
pub past : (s : List ℕ) (at : ℕ) → length s ≤ at → get_or s at 0 ≡ 0
past s at h = get_or-eq_default s 0 h

-- no run is longer than what is left
pub run-within : (k : Class) (l : List ℕ) → run k l ≤ length l
unfolding run
run-within k [] = omega arith
run-within k (b ∷ bs) = let h = run-within k bs in go (in_class k b) h
  where
    go : (t : Bool) → run k bs ≤ length bs → cond t (suc (run k bs)) 0 ≤ suc (length bs)
    go true h = omega arith
    go false h = omega arith

pub run_room : (k : Class) (s : List ℕ) (at : ℕ) → run k (drop at s) ≤ length s - at
run_room k s at = rw (length-drop) at (run-within k (drop at s))

-- a test of bytes that is the same at each of the n numbers from lo on, which antt computes
abbrev pub same : Bool → Bool → Bool
same true b = b
same false b = not b

abbrev pub all : (ℕ → Bool) → Bool → ℕ → ℕ → Bool
all p t lo zero = true
all p t lo (suc n) = same t (p lo) && all p t (suc lo) n

same-eq : (t b : Bool) → T (same t b) → b ≡ t
same-eq true true h = refl
same-eq true false h = absurd h
same-eq false true h = absurd h
same-eq false false h = refl

pub and_T : (a b : Bool) → T (a && b) → T a × T b
and_T true b h = (tt, h)
and_T false b h = absurd h

pub steady : (p : ℕ → Bool) (t : Bool) (n lo : ℕ) → T (all p t lo n) → (b : ℕ) → lo ≤ b → b < lo + n → p b ≡ t
steady p t zero lo h b k l = absurd (omega arith)
steady p t (suc n) lo h b k l = go (ℕ_discrete lo b) (steady p t n (suc lo) (and_T (same t (p lo)) (all p t (suc lo) n) h).1 b)
  where
    go : Dec (lo ≡ b) → (suc lo ≤ b → b < suc lo + n → p b ≡ t) → p b ≡ t
    go (yes e) r = rw (← e) (same-eq t (p lo) (and_T (same t (p lo)) (all p t (suc lo) n) h).0)
    go (no e) r = r (omega arith) (omega arith)

pub eqb_comm : (m n : ℕ) → eqb m n ≡ eqb n m
eqb_comm m n = go (ℕ_discrete m n)
  where
    go : Dec (m ≡ n) → eqb m n ≡ eqb n m
    go (yes e) = rw e
    go (no e) = ne_eqb m n e ∙ sym (ne_eqb n m (λ k. e (sym k)))

-- a byte that is not 0 stands within the line
pub inside : (s : List ℕ) (at : ℕ) → 0 < get_or s at 0 → at < length s
inside s at h = go (dec_lt at (length s))
  where
    go : Dec (at < length s) → at < length s
    go (yes k) = k
    go (no k) = absurd (omega (arith, past s at (omega arith)))
