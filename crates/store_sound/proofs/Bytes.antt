-- The bytes of chains: one law for every change of one chain and its portions, and what a byte put behind the last one does.
use mathlib.Core.Path.{◌≡◌, refl, sym, ap, ◌∙◌}
use mathlib.Core.List.{List, [], ◌∷◌, ◌++◌, append-nil, append_assoc}
use mathlib.Core.Bool.{true}
use mathlib.Core.Logic.{⊎_elim}
use Prim.Native.Nat.{ℕ, suc, ◌+◌, ◌*◌, ◌≤◌, ◌<◌}
use native.Mathlib.Omega.{arith}
use lib.ListN.{length, get_or, drop, take, set, length-append}
use lib.Seq.{take-append-add, drop-append-add, take-suc-set, drop-set-lt, drop-drop}
use lib.Dec.{eqb}
use Rattle.cells.specs.Count.{times, all_zero}
use Rattle.store.specs.Chain.{chain, portion, bytes_of}
use Rattle.cells.proofs.Counts.{one-yes}
use Rattle.ground.proofs.Tests.{same?, and_right}
use Rattle.store_sound.proofs.Frame.{bytes-frame}
use Rattle.cells.proofs.Cells.{cell-fits, length-cell, cell-set-same, cell-set-other}
use Rattle.store_sound.proofs.Linked.{Linked, Change, held_below, not-old, not_new, others}

pub record Filled (st ls : List ℕ) (fs ns sz : ℕ → ℕ) (E : ℕ) : Type 0 where
  pub blank : (q : ℕ) → q < length ls → get_or ls q 0 ≡ 65535 → all_zero (portion st q) ≡ true
  pub tailed : (i : ℕ) → i < E → all_zero (drop (sz i) (bytes_of st (chain ls (fs i) (ns i)))) ≡ true

-- the store changes in old and new portions alone, what is left of old is zeroed, and behind the new size all is zero
pub record Fill (st st' ls : List ℕ) (sz sz' : ℕ → ℕ) (E i : ℕ) (old new : List ℕ) : Type 0 where
  pub apart : (q : ℕ) → q < length ls → times q old ≡ 0 → times q new ≡ 0 → portion st' q ≡ portion st q
  pub wiped : (q : ℕ) → q < length ls → 0 < times q old → times q new ≡ 0 → all_zero (portion st' q) ≡ true
  pub sizes : (j : ℕ) → j < E → (j ≡ i → ⊥) → sz' j ≡ sz j
  pub tail : all_zero (drop (sz' i) (bytes_of st' new)) ≡ true

module _ (st st' ls ls' : List ℕ) (fs ns sz fs' ns' sz' : ℕ → ℕ) (E i : ℕ) (old new : List ℕ)
    (s : Linked ls fs ns E) (c : Change ls ls' fs ns fs' ns' E i old new) (f : Filled st ls fs ns sz E) (g : Fill st st' ls sz sz' E i old new) where
  pub others-bytes : (j : ℕ) → j < E → (j ≡ i → ⊥) → bytes_of st' (chain ls' (fs' j) (ns' j)) ≡ bytes_of st (chain ls (fs j) (ns j))
  others-bytes j b ne =
      rw (others ls ls' fs ns fs' ns' E i old new s c j b ne)
      (bytes-frame st st' (chain ls (fs j) (ns j)) (λ q h. g.apart q (held_below ls fs ns E s j b q h)
      (not-old ls ls' fs ns fs' ns' E i old new s c j b ne q h) (not_new ls ls' fs ns fs' ns' E i old new s c j b ne q h)))

  pub filled : Filled st' ls' fs' ns' sz' E
  filled = record {
    blank = λ q b k.
        let l : q < length ls = rw c.long at b in
        let z : times q new ≡ 0 = ⊎_elim (λ (z : times q new ≡ 0). z) (λ (n : times q new ≡ 0 → ⊥). absurd (c.held q l (omega arith) k)) (same? (times q new) 0) in
        ⊎_elim
        (λ (o : times q old ≡ 0). rw (g.apart q l o z) (f.blank q l (sym (c.kept q l o z) ∙ k)))
        (λ (o : times q old ≡ 0 → ⊥). g.wiped q l (omega arith) z)
        (same? (times q old) 0);
    tailed = λ j b. ⊎_elim
        (λ (e : j ≡ i). rw (e, c.now) g.tail)
        (λ (ne : j ≡ i → ⊥). rw (others-bytes j b ne, g.sizes j b ne) (f.tailed j b))
        (same? j i);
  }

-- ---- the bytes of a chain and one portion more

pub bytes-append : (st a b : List ℕ) → bytes_of st (a ++ b) ≡ bytes_of st a ++ bytes_of st b
bytes-append st [] b = refl
bytes-append st (p ∷ a) b = rw (bytes-append st a b) (sym (append_assoc (portion st p) (bytes_of st a) (bytes_of st b)))

pub bytes-length : (P : ℕ) (st ps : List ℕ) → length st ≡ P * 256 → ((q : ℕ) → 0 < times q ps → q < P) → length (bytes_of st ps) ≡ 256 * length ps
bytes-length P st [] e h = refl
bytes-length P st (p ∷ ps) e h =
    let b = cell-fits 256 p P (h p (omega (arith, one-yes p p refl))) in
    omega (arith, length-append (portion st p) (bytes_of st ps), length-cell 256 st p (omega arith), bytes-length P st ps e (λ q i. h q (omega arith)))

zero-tail : (l : List ℕ) → all_zero l ≡ true → all_zero (drop 1 l) ≡ true
zero-tail [] h = refl
zero-tail (x ∷ l) h = and_right (eqb x 0) (all_zero l) h

-- a byte put at place o of the last portion, behind the bytes so far
module _ (P : ℕ) (st init : List ℕ) (l o v : ℕ) (long : length st ≡ P * 256) (below : (q : ℕ) → 0 < times q init → q < P) (bl : l < P) (fresh : times l init ≡ 0) (bo : o < 256) where
  st' : List ℕ
  st' = set st (l * 256 + o) v

  room : l * 256 + 256 ≤ length st
  room = omega (arith, cell-fits 256 l P bl)

  init-same : bytes_of st' init ≡ bytes_of st init
  unfolding st'
  init-same = bytes-frame st st' init (λ q h. cell-set-other 256 st l o v bo q
      (omega (arith, cell-fits 256 q P (below q h))) (λ e. omega (arith, ap (λ (x : ℕ). times x init) e)))

  after : bytes_of st' (init ++ (l ∷ [])) ≡ bytes_of st init ++ set (portion st l) o v
  unfolding st'
  after = bytes-append st' init (l ∷ []) ∙ rw (init-same, cell-set-same 256 st l o v bo, append-nil (set (portion st l) o v))

  before : bytes_of st (init ++ (l ∷ [])) ≡ bytes_of st init ++ portion st l
  before = bytes-append st init (l ∷ []) ∙ rw (append-nil (portion st l))

  at : (x : ℕ) → 256 * length init + x ≡ length (bytes_of st init) + x
  at x = omega (arith, bytes-length P st init long below)

  pub put-content : take (256 * length init + o + 1) (bytes_of (set st (l * 256 + o) v) (init ++ (l ∷ []))) ≡ take (256 * length init + o) (bytes_of st (init ++ (l ∷ []))) ++ (v ∷ [])
  unfolding st'
  put-content =
      let e₁ : 256 * length init + o + 1 ≡ length (bytes_of st init) + suc o = omega (arith, at o) in
      rw (after, before, e₁, at o, take-append-add (bytes_of st init) (set (portion st l) o v) (suc o), take-append-add (bytes_of st init) (portion st l) o)
      (ap (λ (t : List ℕ). bytes_of st init ++ t) (take-suc-set (portion st l) o v (rw (length-cell 256 st l room) bo))
      ∙ sym (append_assoc (bytes_of st init) (take o (portion st l)) (v ∷ [])))

  pub put-tail : all_zero (drop (256 * length init + o) (bytes_of st (init ++ (l ∷ [])))) ≡ true
      → all_zero (drop (256 * length init + o + 1) (bytes_of (set st (l * 256 + o) v) (init ++ (l ∷ [])))) ≡ true
  unfolding st'
  put-tail h =
      let e₁ : 256 * length init + o + 1 ≡ length (bytes_of st init) + (o + 1) = omega (arith, at o) in
      let h₁ : all_zero (drop o (portion st l)) ≡ true = rw (before, at o, drop-append-add (bytes_of st init) (portion st l) o) at h in
      rw (after, e₁, drop-append-add (bytes_of st init) (set (portion st l) o v) (o + 1), drop-set-lt (o + 1) (portion st l) o v (omega arith), ← (drop-drop 1 o (portion st l)))
      (zero-tail (drop o (portion st l)) h₁)

  -- a new portion, all zero, has nothing behind the size
  pub tail-new : o ≡ 0 → all_zero (portion st l) ≡ true → all_zero (drop (256 * length init + o) (bytes_of st (init ++ (l ∷ [])))) ≡ true
  tail-new e h = rw (before, at o, drop-append-add (bytes_of st init) (portion st l) o, e) h
