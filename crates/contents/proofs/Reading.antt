-- A reader that goes along a chain reads the bytes ahead of it, on any memory.
use mathlib.Core.Path.{◌≡◌, refl, sym, ap, ◌∙◌}
use mathlib.Core.List.{List, ◌∷◌}
use Prim.Native.Nat.{ℕ, zero, suc, ◌+◌, ◌-◌, ◌*◌, ◌≤◌, ◌<◌, min}
use native.Mathlib.Omega.{arith}
use native.Mathlib.Numerals.{add-one, sub-one}
use native.Mathlib.Decide.{dec_le, dec_lt}
use native.Mathlib.Nat.{add-zero, add-suc, add_assoc}
use lib.ListN.{length, get_or, set, take, drop}
use lib.Seq.{sets, take-suc, take_all, length-take-le, length-sets}
use borrow.Author.Tests.{lt-ltb, le-ltb}
use Rattle.cells.proofs.Sets.{sets-snoc, sets-take}
use Rattle.contents.specs.declared.Cursor.{Cursor}
use Rattle.store.specs.Entry.{entry}
use Rattle.contents.specs.Content.{portion_after, place_after, bytes_from, extent, content_of, content, cursor, ahead, onward, after}
use Rattle.contents.specs.Run.{copied}

pub length-bytes : (store links : List ℕ) (p at n : ℕ) → length (bytes_from store links p at n) ≡ n
unfolding bytes_from
length-bytes store links p at zero = refl
length-bytes store links p at (suc n) = ap suc (length-bytes store links (portion_after links p at) (place_after at) n)

pub length-content : (store links directory : List ℕ) (i : ℕ) → length (content store links directory i) ≡ extent links (entry directory i)
unfolding content_of
length-content store links directory i = length-bytes store links _ 0 _

module _ (store links : List ℕ) where
  pub after-suc : (c : Cursor) (k : ℕ) → after links c (suc k) ≡ onward links (after links c k)
  unfolding after
  after-suc c zero = refl
  after-suc c (suc k) = after-suc (onward links c) k

  pub after-left : (c : Cursor) (k : ℕ) → (after links c k).left ≡ c.left - k
  unfolding after
  after-left c zero = omega arith
  after-left c (suc k) = after-left (onward links c) k ∙ omega arith

  bytes-cons : (p at left : ℕ) → 0 < left → bytes_from store links p at left ≡ get_or store (p * 256 + at) 0 ∷ bytes_from store links (portion_after links p at) (place_after at) (left - 1)
  unfolding bytes_from
  bytes-cons p at zero h = absurd (omega arith)
  bytes-cons p at (suc k) h = rw sub-one

  -- what is ahead k bytes on
  pub ahead_after : (c : Cursor) (k : ℕ) → k ≤ c.left → ahead store links (after links c k) ≡ drop k (ahead store links c)
  unfolding after
  ahead_after c zero h = refl
  ahead_after c (suc k) h =
      ahead_after (onward links c) k (omega arith)
      ∙ sym (ap (drop (suc k)) (bytes-cons c.portion c.at c.left (omega arith)))

  pub ahead-byte : (c : Cursor) (k : ℕ) → k < c.left → get_or (ahead store links c) k 0 ≡ get_or store ((after links c k).portion * 256 + (after links c k).at) 0
  unfolding after
  ahead-byte c zero h = ap (λ (l : List ℕ). get_or l 0 0) (bytes-cons c.portion c.at c.left (omega arith))
  ahead-byte c (suc k) h =
      ap (λ (l : List ℕ). get_or l (suc k) 0) (bytes-cons c.portion c.at c.left (omega arith))
      ∙ ahead-byte (onward links c) k (omega arith)

  pub length-ahead : (c : Cursor) → length (ahead store links c) ≡ c.left
  length-ahead c = length-bytes store links c.portion c.at c.left

-- ---- a reader k bytes on, as the code has it

pub record Stands (store links : List ℕ) (c₀ : Cursor) (k p at : ℕ) : Type 0 where
  pub portion : (after links c₀ k).portion ≡ p
  pub place : (after links c₀ k).at ≡ at

module _ (store links : List ℕ) (c₀ : Cursor) where
  pub stands-start : Stands store links c₀ 0 c₀.portion c₀.at
  unfolding after
  stands-start = record { portion = refl; place = refl }

  pub stands-step : (k p at p' at' : ℕ) → Stands store links c₀ k p at → p' ≡ portion_after links p at → at' ≡ place_after at → Stands store links c₀ (k + 1) p' at'
  stands-step k p at p' at' s ep ea = rw (add-one k) (record {
    portion = ap (λ (c : Cursor). c.portion) (after-suc store links c₀ k) ∙ rw (s.portion, s.place) (sym ep);
    place = ap (λ (c : Cursor). c.at) (after-suc store links c₀ k) ∙ rw s.place (sym ea);
  })

  pub stands-byte : (k p at b : ℕ) → k < c₀.left → Stands store links c₀ k p at → b ≡ get_or store (p * 256 + at) 0 → b ≡ get_or (ahead store links c₀) k 0
  stands-byte k p at b h s e = e ∙ rw (← s.portion, ← s.place) (sym (ahead-byte store links c₀ k h))

  pub stands-is : (k p at left : ℕ) → Stands store links c₀ k p at → left ≡ c₀.left - k → cursor p at left ≡ after links c₀ k
  stands-is k p at left s e = λ j. cursor (sym s.portion j) (sym s.place j) ((e ∙ sym (after-left store links c₀ k)) j)

-- before its last byte a reader stays in the portion
pub stays : (links : List ℕ) (p at : ℕ) → at < 255 → (p ≡ portion_after links p at) × (at + 1 ≡ place_after at)
unfolding portion_after place_after
stays links p at h = rw (lt-ltb at 255 h) (refl, refl)

pub place_inside : (at at' : ℕ) → at' ≡ place_after at → at' ≤ 255
unfolding place_after
place_inside at at' e = rw e (elim (dec_lt at 255) [ yes h ↦ rw (lt-ltb at 255 h) (omega arith) | no h ↦ rw (le-ltb at 255 (omega arith)) (omega arith) ])

-- ---- a content copied out

-- the front of a list stored at the front of another, one element more
pub front-more : (out₀ l : List ℕ) (k b : ℕ) → k < length l → b ≡ get_or l k 0 → set (sets out₀ 0 (take k l)) k b ≡ sets out₀ 0 (take (k + 1) l)
front-more out₀ l k b h e =
    let z : 0 + length (take k l) ≡ k = omega (arith, length-take-le k l (omega arith)) in
    rw (e, add-one k, take-suc l k 0 h, sets-snoc out₀ 0 (take k l) (get_or l k 0), z)

pub record Copying (store links : List ℕ) (c₀ : Cursor) (n : ℕ) (out₀ out : List ℕ) (k p at : ℕ) : Type 0 where
  pub stands : Stands store links c₀ k p at
  pub put : out ≡ sets out₀ 0 (take k (ahead store links c₀))
  pub few : k ≤ n

module _ (store links : List ℕ) (c₀ : Cursor) (n m : ℕ) (out₀ : List ℕ) (all : m ≡ c₀.left) (least : n ≡ min m (length out₀)) where
  pub copying-start : (p : ℕ) → p ≡ c₀.portion → Copying store links c₀ n out₀ out₀ 0 p c₀.at
  copying-start p e = rw e (record { stands = stands-start store links c₀; put = refl; few = omega arith })

  pub copying-long : (out : List ℕ) (k p at : ℕ) → Copying store links c₀ n out₀ out k p at → length out ≡ length out₀
  copying-long out k p at i = ap length i.put ∙ length-sets out₀ 0 (take k (ahead store links c₀))

  pub copying-step : (out : List ℕ) (k p at b p' at' : ℕ) → k < n → Copying store links c₀ n out₀ out k p at → b ≡ get_or store (p * 256 + at) 0
      → p' ≡ portion_after links p at → at' ≡ place_after at → Copying store links c₀ n out₀ (set out k b) (k + 1) p' at'
  copying-step out k p at b p' at' h i eb ep ea = record {
    stands = stands-step store links c₀ k p at p' at' i.stands ep ea;
    put = ap (λ (o : List ℕ). set o k b) i.put
        ∙ front-more out₀ (ahead store links c₀) k b (omega (arith, length-ahead store links c₀)) (stands-byte store links c₀ k p at b (omega arith) i.stands eb);
    few = omega arith;
  }

  -- a run that stays in its portion
  copying-run : (out : List ℕ) (k p at r : ℕ) → r ≤ 255 - at → k + r ≤ n → Copying store links c₀ n out₀ out k p at
      → Copying store links c₀ n out₀ (copied out k store (p * 256 + at) r) (k + r) p (at + r)
  unfolding copied
  copying-run out k p at zero h f i = rw (add-zero k, add-zero at) i
  copying-run out k p at (suc r) h f i =
      rw (add-suc k r, add-suc at r)
      (rw (add-one (k + r), add-one (at + r))
      at (copying-step (copied out k store (p * 256 + at) r) (k + r) p (at + r) (get_or store (p * 256 + at + r) 0) p (at + r + 1) (omega arith)
      (copying-run out k p at r (omega arith) (omega arith) i) (ap (λ (q : ℕ). get_or store q 0) (add_assoc (p * 256) at r))
      (stays links p (at + r) (omega arith)).0 (stays links p (at + r) (omega arith)).1))

  pub copying-ran : (out out' : List ℕ) (k p at r : ℕ) → k < n → (r ≤ n - k - 1) × (r ≤ 255 - at) × (out' ≡ copied out k store (p * 256 + at) r)
      → Copying store links c₀ n out₀ out k p at → Copying store links c₀ n out₀ out' (k + r) p (at + r)
  copying-ran out out' k p at r h ran i = rw ran.2 (copying-run out k p at r ran.1 (omega arith) i)

  pub copying-done : (out : List ℕ) (k p at : ℕ) → n ≤ k → Copying store links c₀ n out₀ out k p at → out ≡ sets out₀ 0 (ahead store links c₀)
  copying-done out k p at h i =
      let e : k ≡ n = omega (arith, i.few) in
      i.put ∙ ap (λ (m : ℕ). sets out₀ 0 (take m (ahead store links c₀))) e ∙ end (dec_le c₀.left (length out₀))
    where
      end : Dec (c₀.left ≤ length out₀) → sets out₀ 0 (take n (ahead store links c₀)) ≡ sets out₀ 0 (ahead store links c₀)
      end (yes y) = ap (sets out₀ 0) (take_all n (ahead store links c₀) (omega (arith, length-ahead store links c₀)))
      end (no y) = sets-take out₀ 0 n (ahead store links c₀) (omega arith)
