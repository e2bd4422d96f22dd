-- A chain has no more portions than there are, and an entry's content on sound memory is its chain's bytes.
use mathlib.Core.Path.{◌≡◌, refl, sym, ap, ◌∙◌}
use mathlib.Core.List.{List, [], ◌∷◌, ◌++◌}
use Prim.Native.Nat.{ℕ, zero, suc, ◌+◌, ◌-◌, ◌*◌, ◌≤◌, ◌<◌, min}
use native.Mathlib.Omega.{arith}
use lib.ListN.{length, get_or, take, drop, length-append, get_or-append}
use lib.Seq.{drop-cons, drop_at, drop-append-add}
use borrow.Author.Tests.{lt-ltb, le-ltb}
use Rattle.cells.specs.Count.{times}
use Rattle.cells.proofs.Counts.{one-yes, sum-most, times-portions}
use Rattle.cells.proofs.Cells.{cell-fits, cell_at, length-cell}
use Rattle.store.specs.Chain.{chain, portion, bytes_of, walk, needed}
use Rattle.store.specs.Entry.{first, size, last_of}
use Rattle.contents.specs.Content.{portion_after, place_after, bytes_from, extent, content_of}
use Rattle.store_sound.specs.Sound.{tail_of}
use Rattle.store_sound.proofs.Changes.{chain_snoc}
use Rattle.store_sound.proofs.Bytes.{bytes-append, bytes-length}
use Rattle.store_sound.proofs.PutSound.{chain_length}

-- ---- a chain has no more portions than there are

pub few : (ps : List ℕ) (P : ℕ) → ((q : ℕ) → 0 < times q ps → q < P) → ((q : ℕ) → times q ps ≤ 1) → length ps ≤ P
few ps P b o = omega (arith, times-portions ps P b, sum-most (λ (q : ℕ). times q ps) P o)

-- ---- a content read byte by byte is the chain's bytes

after-in : (ls : List ℕ) (p at : ℕ) → at < 255 → (portion_after ls p at ≡ p) × (place_after at ≡ at + 1)
unfolding portion_after place_after
after-in ls p at h = (rw (lt-ltb at 255 h), rw (lt-ltb at 255 h))

after-end : (ls : List ℕ) (p at : ℕ) → 255 ≤ at → (portion_after ls p at ≡ get_or ls p 0) × (place_after at ≡ 0)
unfolding portion_after place_after
after-end ls p at h = (rw (le-ltb at 255 h), rw (le-ltb at 255 h))

module _ (P : ℕ) (st ls : List ℕ) (long : length st ≡ P * 256) where
  pub bytes-walk : (n p at k : ℕ) → at < 256 → at + n ≤ 256 * k → ((q : ℕ) → 0 < times q (chain ls p k) → q < P)
      → bytes_from st ls p at n ≡ take n (drop at (bytes_of st (chain ls p k)))
  unfolding bytes_from
  bytes-walk zero p at k b h o = refl
  bytes-walk (suc n) p at zero b h o = absurd (omega arith)
  bytes-walk (suc n) p at (suc k) b h o =
      let whole : length (portion st p) ≡ 256 = length-cell 256 st p (omega (arith, cell-fits 256 p P (o p (omega (arith, one-yes p p refl))))) in
      let rest : List ℕ = bytes_of st (chain ls (get_or ls p 0) k) in
      let head : get_or (portion st p ++ rest) at 0 ≡ get_or st (p * 256 + at) 0 = get_or-append (portion st p) rest 0 at (omega arith) ∙ cell_at 256 st p at b in
      let split : take (suc n) (drop at (portion st p ++ rest)) ≡ get_or st (p * 256 + at) 0 ∷ take n (drop (suc at) (portion st p ++ rest)) =
      ap (take (suc n)) (drop-cons (portion st p ++ rest) at 0 (omega (arith, length-append (portion st p) rest))) ∙ ap (λ (x : ℕ). x ∷ take n (drop (suc at) (portion st p ++ rest))) head in
      let walked : get_or st (p * 256 + at) 0 ∷ bytes_from st ls (portion_after ls p at) (place_after at) n ≡ get_or st (p * 256 + at) 0 ∷ take n (drop (suc at) (portion st p ++ rest)) =
      elim (native.Mathlib.Decide.dec_lt at 255) [
        | yes y ↦
            ap (λ (t : List ℕ). get_or st (p * 256 + at) 0 ∷ t)
            ((λ j. bytes_from st ls ((after-in ls p at y).0 j) ((after-in ls p at y).1 j) n) ∙ bytes-walk n p (at + 1) (suc k) (omega arith) (omega arith) o
            ∙ ap (λ (m : ℕ). take n (drop m (bytes_of st (chain ls p (suc k))))) (let e : at + 1 ≡ suc at = omega arith in e))
        | no y ↦
            ap (λ (t : List ℕ). get_or st (p * 256 + at) 0 ∷ t)
            ((λ j. bytes_from st ls ((after-end ls p at (omega arith)).0 j) ((after-end ls p at (omega arith)).1 j) n)
            ∙ bytes-walk n (get_or ls p 0) 0 k (omega arith) (omega arith) (λ q i. o q (omega arith))
            ∙ ap (take n) (sym (drop_at (portion st p) rest (suc at) (omega arith))))
      ] in
      walked ∙ sym split

-- an entry whose chain of n portions lies in the store and holds its size
pub content-chain : (st ls e : List ℕ) (n : ℕ) → length st ≡ length ls * 256 → ((q : ℕ) → 0 < times q (chain ls (first e) n) → q < length ls) → n ≤ length ls → size e ≤ 256 * n
    → content_of st ls e ≡ take (size e) (bytes_of st (chain ls (first e) n))
unfolding content_of extent
content-chain st ls e n long o few h =
    ap (bytes_from st ls (first e) 0) (let z : min (size e) (length ls * 256) ≡ size e = omega arith in z)
    ∙ bytes-walk (length ls) st ls long (size e) (first e) 0 n (omega arith) (omega arith) o

-- the tail of the last portion is what lies behind the size
pub tail-chain : (st ls e : List ℕ) (m : ℕ) → length st ≡ length ls * 256 → ((q : ℕ) → 0 < times q (chain ls (first e) (suc m)) → q < length ls) → suc m ≤ length ls → needed (size e) ≡ suc m
    → drop (size e) (bytes_of st (chain ls (first e) (suc m))) ≡ tail_of st ls e
unfolding tail_of last_of
tail-chain st ls e m long o few n =
    let init : List ℕ = chain ls (first e) m in
    let last : ℕ = walk ls (first e) m in
    let snoc : chain ls (first e) (suc m) ≡ init ++ (last ∷ []) = chain_snoc ls (first e) m in
    let li : length (bytes_of st init) ≡ 256 * m =
    bytes-length (length ls) st init long (λ q i. o q (omega (arith, ap (times q) snoc, Rattle.cells.proofs.Counts.times-append q init (last ∷ [])))) ∙ ap (λ (k : ℕ). 256 * k) (chain_length ls (first e) m) in
    let at : size e ≡ length (bytes_of st init) + (size e - 256 * (needed (size e) - 1)) = omega (arith, li) in
    let w : last ≡ walk ls (first e) (min (needed (size e)) (length ls) - 1) = ap (walk ls (first e)) (let z : m ≡ min (needed (size e)) (length ls) - 1 = omega arith in z) in
    ap (λ (ps : List ℕ). drop (size e) (bytes_of st ps)) snoc
    ∙ ap (drop (size e)) (bytes-append st init (last ∷ []) ∙ ap (λ (t : List ℕ). bytes_of st init ++ t) (mathlib.Core.List.append-nil (portion st last)))
    ∙ ap (λ (k : ℕ). drop k (bytes_of st init ++ portion st last)) at
    ∙ drop-append-add (bytes_of st init) (portion st last) (size e - 256 * (needed (size e) - 1))
    ∙ ap (λ (p : ℕ). drop (size e - 256 * (needed (size e) - 1)) (portion st p)) w
