-- A run of bytes copied at once.
use mathlib.Core.Path.{◌≡◌, refl, sym, ap, ◌∙◌}
use mathlib.Core.List.{List, ◌++◌}
use Prim.Native.Nat.{ℕ, zero, suc, ◌+◌, ◌≤◌}
use native.Mathlib.Omega.{arith}
use native.Mathlib.Numerals.{add-one}
use lib.ListN.{length, get_or, set, take, drop, length-set, length-drop}
use lib.Seq.{paste, paste-zero, paste-suc, get_or-drop, take-take, length-take-le}
use borrow.Rule.Slice.PartMut.{put_mid}
use Rattle.std.proofs.lemmas.Slice.{put_mid-paste}
use Rattle.contents.specs.Run.{copied}

module _ (out : List ℕ) (k : ℕ) (store : List ℕ) (from : ℕ) where
  length-copied : (n : ℕ) → length (copied out k store from n) ≡ length out
  unfolding copied
  length-copied zero = refl
  length-copied (suc n) = length-set (copied out k store from n) (k + n) (get_or store (from + n) 0) ∙ length-copied n

  pub copied-long : (o : List ℕ) (n : ℕ) → o ≡ copied out k store from n → length o ≡ length out
  copied-long o n e = ap length e ∙ length-copied n

  pub copied_none : out ≡ copied out k store from 0
  unfolding copied
  copied_none = refl

  pub copied_more : (o : List ℕ) (n : ℕ) → o ≡ copied out k store from n → set o (k + n) (get_or store (from + n) 0) ≡ copied out k store from (n + 1)
  unfolding copied
  copied_more o n e = rw (add-one n, e)

  pub copied_all : (o : List ℕ) (j n : ℕ) → j ≤ n → n ≤ j → o ≡ copied out k store from j → o ≡ copied out k store from n
  copied_all o j n h h' e = e ∙ ap (copied out k store from) (let z : j ≡ n = omega arith in z)

  -- a run of stores one after another is a copy of a part at once
  copied-paste : (n : ℕ) → k + n ≤ length out → from + n ≤ length store → copied out k store from n ≡ paste out k (drop from store) n
  unfolding copied
  copied-paste zero h g = paste-zero out k (drop from store)
  copied-paste (suc n) h g =
      rw (copied-paste n (omega arith) (omega arith), ← get_or-drop from store n 0)
      (paste-suc out k (drop from store) n 0 (omega arith) (rw length-drop (omega arith)))

  pub copied_at-once : (n m j : ℕ) (ys : List ℕ) → m ≡ n → j ≡ n → k + n ≤ length out → from + n ≤ length store → ys ≡ take j (drop from store)
      → put_mid k m out ys ≡ copied out k store from n
  copied_at-once n m j ys a b h g e =
      put_mid-paste k m out ys (take n (drop from store)) n (rw (sym b) e) (sym a) (sym (length-take-le n (drop from store) (rw length-drop (omega arith))))
      ∙ ap (λ (t : List ℕ). take k out ++ t ++ drop (k + n) out) (take-take n n (drop from store) (omega arith))
      ∙ sym (copied-paste n h g)
