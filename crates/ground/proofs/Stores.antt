-- Parts of a list, and runs of stores: `sets` of the library.
-- Assumes nothing.
use mathlib.Core.Path.{◌≡◌, refl, sym, ap, ◌∙◌}
use mathlib.Core.List.{List, [], ◌∷◌, ◌++◌, append-nil, append_assoc}
use Prim.Native.Nat.{ℕ, zero, suc, ◌+◌, ◌-◌, ◌≤◌, ◌<◌, min}
use native.Mathlib.Nat.{add-zero}
use native.Mathlib.Numerals.{add-one}
use native.Mathlib.Omega.{arith}
use native.Mathlib.Decide.{dec_le}
use lib.ListN.{length, get_or, set, take, drop, replicate, length-set, length-take, length-drop, drop_of_length-le}
use borrow.Rule.Slice.PartMut.{put_mid}
use lib.Seq.{sets, take_all, drop-cons, drop-drop, set_out, set_comm, sets-eq}

-- ---- a part of a slice, cut at its end

pub past_all : (l : List ℕ) (a : ℕ) → take (length l - a) (drop a l) ≡ drop a l
past_all l a = take_all (length l - a) (drop a l) (omega (arith, length-drop a l))

pub past-none : (l : List ℕ) (a : ℕ) → length l ≤ a → take (length l - length l) (drop (length l) l) ≡ drop a l
past-none l a h = past_all l (length l) ∙ (drop_of_length-le l (let e : length l ≤ length l = omega arith in e) ∙ sym (drop_of_length-le l h))

-- ---- runs of stores

pub sets-append : (l : List ℕ) (i : ℕ) (a b : List ℕ) → sets l i (a ++ b) ≡ sets (sets l i a) (i + length a) b
sets-append l i [] b = rw add-zero
sets-append l i (x ∷ a) b = sets-append (set l i x) (suc i) a b ∙ ap (λ (k : ℕ). sets (sets (set l i x) (suc i) a) k b) (let e : suc i + length a ≡ i + suc (length a) = omega arith in e)

sets-set : (xs l : List ℕ) (i j x : ℕ) → i + length xs ≤ j → sets (set l j x) i xs ≡ set (sets l i xs) j x
sets-set [] l i j x h = refl
sets-set (y ∷ ys) l i j x h =
    ap (λ m. sets m (suc i) ys) (set_comm l j i x y (omega arith)) ∙ sets-set ys (set l i y) (suc i) j x (omega arith)

-- the last of a run may be stored first
pub sets_last : (l : List ℕ) (at : ℕ) (xs : List ℕ) (x : ℕ) → sets (set l (at + length xs) x) at xs ≡ sets l at (xs ++ (x ∷ []))
sets_last l at xs x = sets-set xs l at (at + length xs) x (omega arith) ∙ sym (sets-append l at xs (x ∷ []))

pub sets-out : (l : List ℕ) (at : ℕ) (t : List ℕ) → length l ≤ at → sets l at t ≡ l
sets-out l at [] h = refl
sets-out l at (x ∷ t) h = rw (set_out l at x h) (sets-out l (suc at) t (omega arith))

pub sets-all : (l t : List ℕ) → length t ≡ length l → sets l 0 t ≡ t
sets-all l t e = sets-eq t l 0 (omega arith) ∙ (ap (λ (r : List ℕ). t ++ r) (drop_of_length-le l (let h : length l ≤ 0 + length t = omega arith in h)) ∙ append-nil t)

-- ---- a run of stores, cut at the end of the list

-- stores past the end are lost
pub sets_cut : (l : List ℕ) (at : ℕ) (t : List ℕ) (n : ℕ) → min (length t) (length l - at) ≤ n → sets l at (take n t) ≡ sets l at t
sets_cut l at [] zero h = refl
sets_cut l at [] (suc n) h = refl
sets_cut l at (x ∷ t) zero h = sym (sets-out l at (x ∷ t) (omega arith))
sets_cut l at (x ∷ t) (suc n) h = sets_cut (set l at x) (suc at) t n (omega (arith, length-set l at x))

-- a part of a list, written over
pub put_mid-sets : (l ys : List ℕ) (from k : ℕ) → from + k ≤ length l → length ys ≡ k → put_mid from k l ys ≡ sets l from ys
put_mid-sets l ys from k h e =
    ap (λ (r : List ℕ). take from l ++ (ys ++ r)) (drop-drop k from l ∙ ap (λ (n : ℕ). drop (from + n) l) (sym e))
    ∙ sym (append_assoc (take from l) ys (drop (from + length ys) l)) ∙ sym (sets-eq ys l from (omega arith))

-- the same from any place on, with what there is room for of a run
pub sets-part : (l t ys : List ℕ) (at from room k : ℕ) → from ≡ min at (length l) → room ≡ min (length t) (length l - from) → k ≡ room → ys ≡ take room t → put_mid from k l ys ≡ sets l at t
sets-part l t ys at from room k f r e y = put_mid-sets l ys from k (omega arith) (ap length y ∙ omega (arith, length-take room t)) ∙ elim (dec_le (length l) at) [
  | yes h ↦ sets-out l from ys (omega arith) ∙ sym (sets-out l at t h)
  | no h ↦ let same : from ≡ at = omega arith in rw (same, y) (sets_cut l at t room (omega arith))
]

-- ---- a run of stores, one store at a time

pub fill_start : (out : List ℕ) (at n b : ℕ) → sets out (at + 0) (replicate (n - 0) b) ≡ sets out at (replicate n b)
fill_start out at n b = let e : n - 0 ≡ n = omega arith in rw (e, add-zero)

pub fill-next : (out : List ℕ) (at i n b : ℕ) → i < n → sets out (at + i) (replicate (n - i) b) ≡ sets (set out (at + i) b) (at + (i + 1)) (replicate (n - (i + 1)) b)
fill-next out at i n b h = go (n - i) (n - (i + 1)) (at + (i + 1)) (omega arith) (omega arith)
  where
    go : (x y z : ℕ) → x ≡ suc y → z ≡ suc (at + i) → sets out (at + i) (replicate x b) ≡ sets (set out (at + i) b) z (replicate y b)
    go x y z p q = rw (p, q)

pub fill_end : (out : List ℕ) (at i n b : ℕ) → min n (length out - at) ≤ i → sets out (at + i) (replicate (n - i) b) ≡ out
fill_end out at i n b h = elim (dec_le n i) [
  | yes k ↦ let e : n - i ≡ 0 = omega arith in rw e
  | no k ↦ sets-out out (at + i) (replicate (n - i) b) (omega arith)
]

pub put-start : (out : List ℕ) (at : ℕ) (text : List ℕ) → sets out (at + 0) (drop 0 text) ≡ sets out at text
put-start out at text = rw add-zero

pub put_next : (out : List ℕ) (at i : ℕ) (text : List ℕ) → i < length text → sets out (at + i) (drop i text) ≡ sets (set out (at + i) (get_or text i 0)) (at + (i + 1)) (drop (i + 1) text)
put_next out at i text h = let e : at + (i + 1) ≡ suc (at + i) = omega arith in rw (e, add-one, drop-cons text i 0 h)

pub put-end : (out : List ℕ) (at i : ℕ) (text : List ℕ) → min (length text) (length out - at) ≤ i → sets out (at + i) (drop i text) ≡ out
put-end out at i text h = elim (dec_le (length text) i) [
  | yes k ↦ rw (drop_of_length-le text k)
  | no k ↦ sets-out out (at + i) (drop i text) (omega arith)
]
