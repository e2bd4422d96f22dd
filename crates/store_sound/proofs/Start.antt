-- An entry is started: the lowest empty entry and the lowest free portion are taken, and all else stays.
use mathlib.Core.Path.{◌≡◌, refl, sym, ap, ◌∙◌}
use mathlib.Core.List.{List, [], ◌∷◌, append-nil}
use mathlib.Core.Bool.{Bool, true}
use Prim.Native.Nat.{ℕ, suc, ◌*◌, ◌≤◌, ◌<◌, min}
use native.Mathlib.Omega.{arith}
use lib.ListN.{length, get_or, drop, set, length-set}
use lib.Seq.{length-sets}
use lib.Dec.{eqb, ltb}
use borrow.Author.Tests.{eq-eqb, ne_eqb, eqb-true, ltb-true, leb-true}
use Rattle.cells.specs.Cell.{set_cell}
use Rattle.cells.proofs.Cells.{set_cell-other, set_cell-same}
use Rattle.store.specs.Chain.{portion, needed, free_count}
use Rattle.store.specs.Entry.{entries, entry, kind, name, first, size, many, of_kind}
use Rattle.contents.specs.Content.{content_of, extent, bytes_from}
use Rattle.memory.specs.Memory.{memory}
use Rattle.ground.proofs.Tests.{and_left, and_right, and_both}
use Rattle.store_sound.specs.Sound.{name_ok, name_byte_ok, firsts, counts, store_sound}
use Rattle.store_sound.specs.Shelf.{held, title_ok}
use Rattle.store_sound.proofs.Linked.{Change, changed, others}
use Rattle.store_sound.proofs.Bytes.{Fill, filled, others-bytes}
use Rattle.store_sound.proofs.Facts.{Sound, sound-facts, sizes_of, lent-few, many-none, own_name, kind-class}
use Rattle.store_sound.proofs.Moving.{Moved, inside, moved-is}
use lib.Seq.{drop-cons}
use Rattle.cells.proofs.Counts.{drop-none}
use Rattle.cells.proofs.Scan.{lowest-passes, lowest-first}
use Rattle.std.specs.Prelude.{None}
use Rattle.finding.specs.Find.{is_empty, is_recording, recorded, same_name, titled, titled_at}
use Rattle.finding.proofs.Finding.{nothing-says}
use Rattle.room.specs.Room.{lowest_portion, lowest_entry, has_room}
use Rattle.starting.specs.Start.{new_entry, begun}
use Rattle.store_sound.proofs.Changes.{start}
use Rattle.store_sound.proofs.Room.{lowest-below, lowest-free}

-- ---- a new entry's fields

pub eight : (n : List ℕ) → length n ≡ 8 → get_or n 0 0 ∷ get_or n 1 0 ∷ get_or n 2 0 ∷ get_or n 3 0 ∷ get_or n 4 0 ∷ get_or n 5 0 ∷ get_or n 6 0 ∷ get_or n 7 0 ∷ [] ≡ n
eight n l =
    let step : ((j : ℕ) → j < 8 → drop j n ≡ get_or n j 0 ∷ drop (suc j) n) = λ j b. drop-cons n j 0 (omega arith) in
    sym (step 0 (omega arith) ∙ ap (λ (t : List ℕ). get_or n 0 0 ∷ t) (step 1 (omega arith) ∙ ap (λ (t : List ℕ). get_or n 1 0 ∷ t) (step 2 (omega arith)
    ∙ ap (λ (t : List ℕ). get_or n 2 0 ∷ t) (step 3 (omega arith) ∙ ap (λ (t : List ℕ). get_or n 3 0 ∷ t) (step 4 (omega arith) ∙ ap (λ (t : List ℕ). get_or n 4 0 ∷ t) (step 5 (omega arith)
    ∙ ap (λ (t : List ℕ). get_or n 5 0 ∷ t) (step 6 (omega arith) ∙ ap (λ (t : List ℕ). get_or n 6 0 ∷ t) (step 7 (omega arith) ∙ ap (λ (t : List ℕ). get_or n 7 0 ∷ t) (drop-none n 8 (omega arith))))))))))

module _ (k : ℕ) (n : List ℕ) (q : ℕ) where
  pub new-long : length (new_entry k n q) ≡ 16
  unfolding new_entry
  new-long = refl

  pub new-kind : kind (new_entry k n q) ≡ k
  unfolding new_entry
  new-kind = refl

  pub new-first : q < 65536 → first (new_entry k n q) ≡ q
  unfolding new_entry first
  new-first h = omega arith

  pub new-size : size (new_entry k n q) ≡ 0
  unfolding new_entry size
  new-size = refl

  pub new-name : length n ≡ 8 → name (new_entry k n q) ≡ n
  unfolding new_entry name
  new-name l = eight n l

  pub new-legal : name_ok (new_entry k n q) ≡ title_ok n
  unfolding new_entry name name_ok title_ok name_byte_ok
  new-legal = refl

  pub new-many : 0 < k → many (new_entry k n q) ≡ 1
  unfolding many
  new-many h = rw (ne_eqb (kind (new_entry k n q)) 0 (λ z. omega (arith, new-kind)), new-size)

  pub new-content : (st ls : List ℕ) → content_of st ls (new_entry k n q) ≡ []
  unfolding content_of extent bytes_from
  new-content st ls = ap (λ (m : ℕ). bytes_from st ls (first (new_entry k n q)) 0 m) (let z : min (size (new_entry k n q)) (length ls * 256) ≡ 0 = omega (arith, new-size) in z)

  pub new-same : (e : List ℕ) → same_name e (name (new_entry k n q)) ≡ same_name e n
  unfolding new_entry name same_name
  new-same e = refl

-- ---- the move

-- what an entry of a kind and name asks of a memory that is to take it
pub record MayStart (st ls dir : List ℕ) (k : ℕ) (n : List ℕ) : Type 0 where
  pub sound : store_sound st ls dir ≡ true
  pub some : 0 < k
  pub low : k ≤ 3
  pub long : length n ≡ 8
  pub legal : title_ok n ≡ true
  pub fresh : titled_at dir (eqb k 2) n ≡ None
  pub quiet : k ≡ 3 → recorded dir ≡ None

pub room_says : (free : ℕ) (dir : List ℕ) (sz : ℕ) → has_room free dir sz ≡ true → (lowest_entry dir < entries dir) × (needed sz ≤ free)
unfolding has_room
room_says free dir sz h = (ltb-true _ _ (and_left (ltb (lowest_entry dir) (entries dir)) _ h), leb-true _ _ (and_right (ltb (lowest_entry dir) (entries dir)) _ h))

module _ (st ls dir : List ℕ) (k : ℕ) (n : List ℕ) (a : MayStart st ls dir k n) (room : has_room (free_count ls) dir 0 ≡ true) where
  s : Sound st ls dir
  s = sound-facts st ls dir a.sound

  abbrev E : ℕ
  E = entries dir

  abbrev i : ℕ
  i = lowest_entry dir

  abbrev q : ℕ
  q = lowest_portion ls

  abbrev new : List ℕ
  new = new_entry k n q

  abbrev dir' : List ℕ
  dir' = set_cell 16 dir i new

  abbrev ls' : List ℕ
  ls' = set ls q 65534

  bi : i < E
  bi = (room_says (free_count ls) dir 0 room).0

  bq : q < length ls
  bq = lowest-below ls (omega (arith, (room_says (free_count ls) dir 0 room).1))

  free : get_or ls q 0 ≡ 65535
  free = lowest-free ls bq

  none : kind (entry dir i) ≡ 0
  none = eqb-true _ _ (lowest-passes (is_empty dir) E bi)

  small : q < 65536
  small = omega (arith, bq, lent-few st ls dir s.lent)

  other : (j : ℕ) → j < E → (j ≡ i → ⊥) → entry dir' j ≡ entry dir j
  other j b ne = set_cell-other 16 dir i new (new-long k n q) (inside dir i bi) j (inside dir j b) ne

  here : entry dir' i ≡ new
  here = set_cell-same 16 dir i new (new-long k n q) (inside dir i bi)

  change : Change ls ls' (firsts dir) (counts dir) (firsts dir') (counts dir') E i [] (q ∷ [])
  change = start ls (firsts dir) (counts dir) (firsts dir') (counts dir') E i s.links bi
      (λ j b ne. ap first (other j b ne)) (λ j b ne. ap many (other j b ne)) q bq free (many-none st ls dir i none)
      (ap first here ∙ new-first k n q small) (ap many here ∙ new-many k n q a.some)

  fill : Fill st st ls (sizes_of dir) (sizes_of dir') E i [] (q ∷ [])
  fill = record {
    apart = λ r b o z. refl;
    wiped = λ r b o z. absurd (omega arith);
    sizes = λ j b ne. ap size (other j b ne);
    tail =
        let z : sizes_of dir' i ≡ 0 = ap size here ∙ new-size k n q in
        rw (z, append-nil (portion st q)) (s.bytes.blank q bq free);
  }

  -- no other entry of the kind bears the name
  alone : (p : Bool) (j : ℕ) → j < E → (j ≡ i → ⊥) → of_kind p (kind new) ≡ true → of_kind p (kind (entry dir j)) ≡ true → name new ≡ name (entry dir j) → ⊥
  unfolding titled
  alone p j b ne o oj e =
      let c : eqb k 2 ≡ p = kind-class p k (rw (new-kind k n q) at o) in
      let w : same_name (entry dir j) n ≡ true = sym (new-same k n q (entry dir j)) ∙ ap (same_name (entry dir j)) e ∙ own_name (entry dir j) in
      let l = lowest-first (titled dir (eqb k 2) n) E j b (rw c (and_both _ _ oj w)) in
      omega (arith, nothing-says (titled dir (eqb k 2) n) E a.fresh)

  only : kind new ≡ 3 → (j : ℕ) → j < E → (j ≡ i → ⊥) → kind (entry dir j) ≡ 3 → ⊥
  only z j b ne e =
      let l = lowest-first (is_recording dir) E j b (eq-eqb _ _ e) in
      omega (arith, nothing-says (is_recording dir) E (a.quiet (sym (new-kind k n q) ∙ z)))

  begun-is : begun (memory st ls dir) k n ≡ memory st ls' dir'
  unfolding begun
  begun-is = refl

  pub begin-moved : Moved (memory st ls dir) (begun (memory st ls dir) k n) (lowest_entry dir) (held k n [])
  begin-moved = rw begun-is
      (moved-is st ls dir st ls' dir' i new s bi refl (length-set ls q 65534) (length-sets dir (i * 16) new) here other
      (omega (arith, new-kind k n q, a.low)) (λ z. new-legal k n q ∙ a.legal) alone only (λ z. absurd (omega (arith, new-kind k n q, a.some)))
      (changed ls ls' (firsts dir) (counts dir) (firsts dir') (counts dir') E i [] (q ∷ []) s.links change)
      (filled st st ls ls' (firsts dir) (counts dir) (sizes_of dir) (firsts dir') (counts dir') (sizes_of dir') E i [] (q ∷ []) s.links change s.bytes fill)
      (others-bytes st st ls ls' (firsts dir) (counts dir) (sizes_of dir) (firsts dir') (counts dir') (sizes_of dir') E i [] (q ∷ []) s.links change s.bytes fill)
      (others ls ls' (firsts dir) (counts dir) (firsts dir') (counts dir') E i [] (q ∷ []) s.links change) _
      (λ t. held (new-kind k n q t) (new-name k n q a.long t) (new-content k n q st ls' t)))
