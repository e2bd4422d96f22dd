-- Laws of `added_all`: bytes laid one after the other are the list laid at once.
use mathlib.Core.Path.{◌≡◌, refl, ap, ◌∙◌}
use mathlib.Core.List.{List, [], ◌∷◌, ◌++◌}
use Prim.Native.Nat.{ℕ, suc, ◌+◌, ◌≤◌}
use native.Mathlib.Nat.{add-zero, zero-add}
use native.Mathlib.Numerals.{add-one}
use native.Mathlib.Omega.{arith}
use lib.ListN.{length, take, drop, replicate, set}
use lib.Seq.{sets, sets-eq, take-append_seam}
use borrow.Author.Tests.{lt-ltb}
use Rattle.stamps.specs.declared.Text.{Text}
use Rattle.stamps.specs.Laying.{text, laid, added, added_all}

pub added-join : (t : Text) (a b : List ℕ) → added_all (added_all t a) b ≡ added_all t (a ++ b)
added-join t [] b = refl
added-join t (x ∷ a) b = added-join (added t x) a b

added-text : (bytes : List ℕ) (n : ℕ) (l : List ℕ) → n + length l ≤ 14 → added_all (text bytes n) l ≡ text (sets bytes n l) (n + length l)
unfolding added
added-text bytes n [] h = rw add-zero
added-text bytes n (b ∷ l) h =
    ap (λ (t : Text). added_all t l) (one n (omega arith))
    ∙ (added-text (set bytes n b) (suc n) l (omega arith) ∙ ap (text (sets (set bytes n b) (suc n) l)) (let e : suc n + length l ≡ n + suc (length l) = omega arith in e))
  where
    one : (m : ℕ) → m + 1 ≤ 14 → added (text bytes m) b ≡ text (set bytes m b) (suc m)
    one m k = rw (lt-ltb m 14 (omega arith), add-one)

-- at most fourteen bytes
pub added-laid : (l : List ℕ) → length l ≤ 14 → added_all (laid []) l ≡ laid l
added-laid l h = added-text (replicate 14 0) 0 l (omega arith) ∙ ap (text (sets (replicate 14 0) 0 l)) (zero-add (length l))

pub three-laid : (a b c : List ℕ) → length (a ++ (b ++ c)) ≤ 14 → added_all (added_all (added_all (laid []) a) b) c ≡ laid (a ++ (b ++ c))
three-laid a b c h = added-join (added_all (laid []) a) b c ∙ (added-join (laid []) a (b ++ c) ∙ added-laid (a ++ (b ++ c)) h)

-- what stands at the front is the list
pub laid-front : (l : List ℕ) → length l ≤ 14 → take (length l) (laid l).bytes ≡ l
laid-front l h =
    ap (take (length l)) (sets-eq l (replicate 14 0) 0 (omega arith)) ∙ take-append_seam l (drop (0 + length l) (replicate 14 0))
