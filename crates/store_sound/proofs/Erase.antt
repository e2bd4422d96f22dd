-- An entry is erased: its chain is zeroed and freed, its entry zeroed, and all else stays.
use mathlib.Core.Path.{◌≡◌, refl, sym, ap, ◌∙◌, subst}
use mathlib.Core.List.{List, [], ◌∷◌}
use mathlib.Core.Bool.{Bool, true, false, false≢true}
use mathlib.Core.Logic.{◌⊎◌, inl, inr, ⊎_elim}
use Prim.Native.Nat.{ℕ, zero, suc, ◌*◌, ◌/◌, ◌≤◌, ◌<◌, min}
use native.Mathlib.Omega.{arith}
use lib.ListN.{length, get_or, set}
use lib.Seq.{length-sets, get_or-set_other, drop-nil}
use lib.Dec.{eqb}
use borrow.Author.Tests.{eq-eqb, ne_eqb}
use Rattle.cells.specs.Cell.{zeros, set_cell}
use Rattle.cells.specs.Count.{times, all_zero, set_all}
use Rattle.cells.proofs.Counts.{one-yes, one-no, length-set_all, set_all-in}
use Rattle.cells.proofs.Cells.{length-zeros, cell-fits, set_cell-other, set_cell-same}
use Rattle.store.specs.Chain.{chain, portion, is_free}
use Rattle.store.specs.Entry.{entries, entry, kind, name, first, size, many, of_kind}
use Rattle.contents.specs.Content.{content_of, extent, bytes_from}
use Rattle.memory.specs.Memory.{Memory, memory}
use Rattle.ground.proofs.Tests.{same?}
use Rattle.store_sound.specs.Sound.{firsts, counts, store_sound}
use Rattle.store_sound.specs.Shelf.{held, nothing, held_of}
use Rattle.store_sound.proofs.Frame.{Agree, chain-frame}
use Rattle.store_sound.proofs.Linked.{Change, changed, others, held_below, held-once}
use Rattle.store_sound.proofs.Bytes.{Fill, filled, others-bytes}
use Rattle.store_sound.proofs.Facts.{Sound, sound-facts, sizes_of, lent-store, chain-few}
use Rattle.store_sound.proofs.Moving.{Moved, inside, moved-is}
use Rattle.room.specs.Room.{lowest_portion, lowest_entry}
use Rattle.erasing.specs.Erase.{freed, emptied, erased, erased_at}
use Rattle.cells.proofs.Scan.{lowest-first}
use Rattle.store_sound.proofs.Changes.{erase}

-- ---- portions zeroed, and a chain freed

abbrev pub zero_all : List ℕ → List ℕ → List ℕ
zero_all st [] = st
zero_all st (p ∷ ps) = zero_all (set_cell 256 st p (zeros 256)) ps

pub zero_all-long : (ps st : List ℕ) → length (zero_all st ps) ≡ length st
zero_all-long [] st = refl
zero_all-long (p ∷ ps) st = zero_all-long ps (set_cell 256 st p (zeros 256)) ∙ length-sets st (p * 256) (zeros 256)

pub all_zero-zeros : (n : ℕ) → all_zero (zeros n) ≡ true
unfolding zeros
all_zero-zeros zero = refl
all_zero-zeros (suc n) = rw (eq-eqb 0 0 refl) (all_zero-zeros n)

module _ (P : ℕ) where
  pub zero_all-out : (st ps : List ℕ) → length st ≡ P * 256 → ((q : ℕ) → 0 < times q ps → q < P)
      → (q : ℕ) → q < P → times q ps ≡ 0 → portion (zero_all st ps) q ≡ portion st q
  zero_all-out st [] e h q b z = refl
  zero_all-out st (p ∷ ps) e h q b z =
      let f = cell-fits 256 p P (h p (omega (arith, one-yes p p refl))) in
      let g = cell-fits 256 q P b in
      zero_all-out (set_cell 256 st p (zeros 256)) ps (length-sets st (p * 256) (zeros 256) ∙ e) (λ r i. h r (omega arith)) q b (omega arith)
      ∙ set_cell-other 256 st p (zeros 256) (length-zeros 256) (omega arith) q (omega arith) (λ k. omega (arith, one-yes p q (sym k)))

  pub zero_all-in : (st ps : List ℕ) → length st ≡ P * 256 → ((q : ℕ) → 0 < times q ps → q < P)
      → (q : ℕ) → 0 < times q ps → portion (zero_all st ps) q ≡ zeros 256
  zero_all-in st [] e h q i = absurd (omega arith)
  zero_all-in st (p ∷ ps) e h q i =
      let f = cell-fits 256 p P (h p (omega (arith, one-yes p p refl))) in
      let l = length-sets st (p * 256) (zeros 256) in
      ⊎_elim
      (λ (z : times q ps ≡ 0).
      let k : p ≡ q = ⊎_elim (λ (k : p ≡ q). k) (λ (n : p ≡ q → ⊥). absurd (omega (arith, one-no p q n))) (same? p q) in
      zero_all-out (set_cell 256 st p (zeros 256)) ps (l ∙ e) (λ r j. h r (omega arith)) q (h q i) z
      ∙ rw (← k) (set_cell-same 256 st p (zeros 256) (length-zeros 256) (omega arith)))
      (λ (n : times q ps ≡ 0 → ⊥). zero_all-in (set_cell 256 st p (zeros 256)) ps (l ∙ e) (λ r j. h r (omega arith)) q (omega arith))
      (same? (times q ps) 0)

-- past a portion that stands in its chain once, a change of its link changes nothing
tail-agrees : (ls : List ℕ) (p k v : ℕ) → ((q : ℕ) → times q (chain ls p (suc k)) ≤ 1) → Agree (chain ls (get_or ls p 0) k) ls (set ls p v)
tail-agrees ls p k v o q i = get_or-set_other ls p q v 0 (λ e. omega (arith, o q, one-yes p q (sym e)))

-- a chain that meets no portion twice is freed as a whole
pub freed-chain : (k : ℕ) (st ls dir : List ℕ) (p : ℕ) → ((q : ℕ) → times q (chain ls p k) ≤ 1)
    → freed (memory st ls dir) p k ≡ memory (zero_all st (chain ls p k)) (set_all ls (chain ls p k) 65535) dir
unfolding freed
freed-chain zero st ls dir p o = refl
freed-chain (suc k) st ls dir p o =
    let f : chain (set ls p 65535) (get_or ls p 0) k ≡ chain ls (get_or ls p 0) k = chain-frame ls (set ls p 65535) (get_or ls p 0) k (tail-agrees ls p k 65535 o) in
    freed-chain k (set_cell 256 st p (zeros 256)) (set ls p 65535) dir (get_or ls p 0) (λ q. omega (arith, o q, ap (times q) f))
    ∙ (λ j. memory (zero_all (set_cell 256 st p (zeros 256)) (f j)) (set_all (set ls p 65535) (f j) 65535) dir)

-- ---- an entry erased

pub zeros-kind : kind (zeros 16) ≡ 0
unfolding zeros
zeros-kind = refl

pub zeros-many : many (zeros 16) ≡ 0
unfolding zeros many size
zeros-many = refl

pub zeros-held : (st ls : List ℕ) → held_of st ls (zeros 16) ≡ nothing
unfolding zeros name content_of extent size first bytes_from
zeros-held st ls = ap (λ (n : ℕ). held 0 (0 ∷ 0 ∷ 0 ∷ 0 ∷ 0 ∷ 0 ∷ 0 ∷ 0 ∷ []) (bytes_from st ls 0 0 n)) (let z : min 0 (length ls * 256) ≡ 0 = omega arith in z)

module _ (st ls dir : List ℕ) (i : ℕ) (h : store_sound st ls dir ≡ true) (bi : i < entries dir) where
  s : Sound st ls dir
  s = sound-facts st ls dir h

  abbrev ps : List ℕ
  ps = chain ls (firsts dir i) (counts dir i)

  abbrev dir' : List ℕ
  dir' = set_cell 16 dir i (zeros 16)

  abbrev E : ℕ
  E = entries dir

  below : (q : ℕ) → 0 < times q ps → q < length ls
  below = held_below ls (firsts dir) (counts dir) E s.links i bi

  pub erased-chain : erased (memory st ls dir) i ≡ memory (zero_all st (chain ls (firsts dir i) (counts dir i))) (set_all ls (chain ls (firsts dir i) (counts dir i)) 65535) (set_cell 16 dir i (zeros 16))
  unfolding erased
  erased-chain = ap (λ (m : Memory). emptied m i)
      (ap (freed (memory st ls dir) (firsts dir i)) (let z : min (counts dir i) (length ls) ≡ counts dir i = omega (arith, chain-few st ls dir s.links i bi) in z)
      ∙ freed-chain (counts dir i) st ls dir (firsts dir i) (held-once ls (firsts dir) (counts dir) E s.links i bi))

  gone : entry dir' i ≡ zeros 16
  gone = set_cell-same 16 dir i (zeros 16) (length-zeros 16) (inside dir i bi)

  other : (j : ℕ) → j < E → (j ≡ i → ⊥) → entry dir' j ≡ entry dir j
  other j b ne = set_cell-other 16 dir i (zeros 16) (length-zeros 16) (inside dir i bi) j (inside dir j b) ne

  change : Change ls (set_all ls ps 65535) (firsts dir) (counts dir) (firsts dir') (counts dir') E i ps []
  change = erase ls (firsts dir) (counts dir) (firsts dir') (counts dir') E i s.links bi
      (λ j b ne. ap first (other j b ne)) (λ j b ne. ap many (other j b ne)) (ap many gone ∙ zeros-many)

  fill : Fill st (zero_all st ps) ls (sizes_of dir) (sizes_of dir') E i ps []
  fill = record {
    apart = λ q b o n. zero_all-out (length ls) st ps (lent-store st ls dir s.lent) below q b o;
    wiped = λ q b o n. rw (zero_all-in (length ls) st ps (lent-store st ls dir s.lent) below q o) (all_zero-zeros 256);
    sizes = λ j b ne. ap size (other j b ne);
    tail = rw (drop-nil (sizes_of dir' i));
  }

  no-class : (p : Bool) → of_kind p (kind (zeros 16)) ≡ true → ⊥
  no-class true o = false≢true (rw zeros-kind at o)
  no-class false o = false≢true (rw zeros-kind at o)

  pub erase-moved : Moved (memory st ls dir) (erased (memory st ls dir) i) i nothing
  erase-moved = rw erased-chain
      (moved-is st ls dir _ _ dir' i (zeros 16) s bi (zero_all-long ps st) (length-set_all ls ps 65535) (length-sets dir (i * 16) (zeros 16)) gone other
      (omega (arith, zeros-kind)) (λ n. absurd (n zeros-kind)) (λ p j b ne o. absurd (no-class p o)) (λ e. absurd (omega (arith, zeros-kind))) (λ e. all_zero-zeros 16)
      (changed ls _ _ _ _ _ E i _ _ s.links change) (filled st _ ls _ _ _ (sizes_of dir) _ _ (sizes_of dir') E i _ _ s.links change s.bytes fill)
      (others-bytes st _ ls _ (firsts dir) (counts dir) (sizes_of dir) _ _ _ E i _ _ s.links change s.bytes fill)
      (others ls _ _ _ _ _ E i _ _ s.links change) nothing (zeros-held _ _))

  -- "room freed is used again": the next new entry and the next new portion are no higher than what was freed
  pub erase-frees-entry : lowest_entry (erased (memory st ls dir) i).directory ≤ i
  erase-frees-entry = rw erased-chain
      (lowest-first (λ (j : ℕ). eqb (kind (entry dir' j)) 0) (entries dir') i (subst (λ (n : ℕ). i < n / 16) (sym (length-sets dir (i * 16) (zeros 16))) bi)
      (eq-eqb _ _ (ap kind gone ∙ zeros-kind)))

  pub erase-frees-portion : (q : ℕ) → 0 < times q (chain ls (firsts dir i) (counts dir i)) → lowest_portion (erased (memory st ls dir) i).links ≤ q
  erase-frees-portion q o = rw erased-chain
      (lowest-first (is_free (set_all ls ps 65535)) (length (set_all ls ps 65535)) q (subst (λ (n : ℕ). q < n) (sym (length-set_all ls ps 65535)) (below q o))
      (eq-eqb _ _ (set_all-in ls ps 65535 q (below q o) o)))

-- the move as a whole: an entry that is not there changes nothing
pub erased_at-sound : (st ls dir : List ℕ) (i : ℕ) → store_sound st ls dir ≡ true → i < entries dir
    → Moved (memory st ls dir) (erased_at (memory st ls dir) i) i nothing ⊎ (erased_at (memory st ls dir) i ≡ memory st ls dir)
erased_at-sound st ls dir i h bi = ⊎_elim
    (λ (e : kind (entry dir i) ≡ 0). inr (rw (eq-eqb (kind (entry dir i)) 0 e)))
    (λ (n : kind (entry dir i) ≡ 0 → ⊥). inl (rw (ne_eqb (kind (entry dir i)) 0 n) (erase-moved st ls dir i h bi)))
    (same? (kind (entry dir i)) 0)
