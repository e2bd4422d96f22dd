-- Bytes are put behind an entry's: the memory stays sound, the content is the old one and the new bytes, and all else stays.
use mathlib.Core.Path.{◌≡◌, sym, ap, ◌∙◌, subst}
use mathlib.Core.List.{List, ◌++◌}
use mathlib.Core.Bool.{true, not, false≢true}
use mathlib.Core.Logic.{⊎_elim}
use Prim.Native.Nat.{ℕ, suc, ◌+◌, ◌-◌, ◌*◌, ◌/◌, ◌%◌, ◌≤◌, ◌<◌, min}
use native.Mathlib.Omega.{arith}
use lib.ListN.{length, get_or, take, set, length-set}
use lib.Seq.{get_or-set_same, get_or-set_other}
use lib.Dec.{eqb, ltb}
use borrow.Author.Tests.{eq-eqb, ltb-true, leb-true}
use Rattle.cells.specs.Count.{times, sum_to}
use Rattle.cells.proofs.Cells.{length-cell, cell-set-same, cell-set-other}
use Rattle.store.specs.Chain.{chain, bytes_of, walk, needed, free_count}
use Rattle.store.specs.Entry.{entries, entry, kind, name, first, size, many, last_of}
use Rattle.contents.specs.Content.{content_of}
use Rattle.memory.specs.Memory.{memory}
use Rattle.ground.proofs.Tests.{same?, and_left, and_right}
use Rattle.store_sound.specs.Sound.{name_ok, firsts, counts, store_sound}
use Rattle.store_sound.specs.Shelf.{held}
use Rattle.store_sound.proofs.Linked.{Linked, held_below, free-out}
use Rattle.store_sound.proofs.Bytes.{Filled}
use Rattle.store_sound.proofs.Facts.{Sound, sound-facts, sizes_of, lent-few, lent-store, many-some, chain-few}
use Rattle.store_sound.proofs.Moving.{Moved, inside, content-at, changed-sound, moved-is}
use Rattle.growing.specs.Grow.{Growing, growing, put_all, with_size, grown}
use Rattle.room.specs.Room.{needed_for, can_grow}
use Rattle.growing.proofs.Growth.{put_all-store, put_all-links}
use Rattle.store_sound.proofs.Changes.{last-in}
use Rattle.store_sound.proofs.PutSound.{Grows}
use Rattle.store_sound.proofs.AppendSound.{Appended, append-sound}
use Rattle.store_sound.proofs.Room.{Room}

-- ---- another size in an entry

module _ (e : List ℕ) (a b c d : ℕ) (long : length e ≡ 16) where
  abbrev pub e₁ : List ℕ
  e₁ = set e 12 a

  abbrev pub e₂ : List ℕ
  e₂ = set e₁ 13 b

  abbrev pub e₃ : List ℕ
  e₃ = set e₂ 14 c

  abbrev pub e₄ : List ℕ
  e₄ = set e₃ 15 d

  below : (k : ℕ) → k < 12 → get_or e₄ k 0 ≡ get_or e k 0
  below k h =
      get_or-set_other e₃ 15 k d 0 (λ x. omega arith) ∙ get_or-set_other e₂ 14 k c 0 (λ x. omega arith) ∙ get_or-set_other e₁ 13 k b 0 (λ x. omega arith) ∙ get_or-set_other e 12 k a 0 (λ x. omega arith)

  pub sized-kind : kind e₄ ≡ kind e
  sized-kind = below 0 (omega arith)

  pub sized-name : name e₄ ≡ name e
  unfolding name
  sized-name =
      rw (below 2 (omega arith), below 3 (omega arith), below 4 (omega arith), below 5 (omega arith), below 6 (omega arith), below 7 (omega arith), below 8 (omega arith), below 9 (omega arith))

  pub sized-legal : name_ok e₄ ≡ name_ok e
  unfolding name_ok
  sized-legal = rw (below 1 (omega arith), sized-name)

  pub sized-first : first e₄ ≡ first e
  unfolding first
  sized-first = omega (arith, below 10 (omega arith), below 11 (omega arith))

  pub sized-size : size e₄ ≡ a + 256 * b + 65536 * c + 16777216 * d
  unfolding size
  sized-size = omega (
    arith,
    (get_or-set_other e₃ 15 12 d 0 (λ x. omega arith) ∙ get_or-set_other e₂ 14 12 c 0 (λ x. omega arith) ∙ get_or-set_other e₁ 13 12 b 0 (λ x. omega arith) ∙ get_or-set_same e 12 a 0 (omega arith)),
    (get_or-set_other e₃ 15 13 d 0 (λ x. omega arith) ∙ get_or-set_other e₂ 14 13 c 0 (λ x. omega arith) ∙ get_or-set_same e₁ 13 b 0 (omega (arith, length-set e 12 a))),
    (get_or-set_other e₃ 15 14 d 0 (λ x. omega arith) ∙ get_or-set_same e₂ 14 c 0 (omega (arith, length-set e 12 a, length-set e₁ 13 b))),
    get_or-set_same e₃ 15 d 0 (omega (arith, length-set e 12 a, length-set e₁ 13 b, length-set e₂ 14 c)),
  )

module _ (dir : List ℕ) (i n : ℕ) (fits : i * 16 + 16 ≤ length dir) where
  abbrev a : ℕ
  a = n % 256

  abbrev b : ℕ
  b = n / 256 % 256

  abbrev c : ℕ
  c = n / 65536 % 256

  abbrev d : ℕ
  d = n / 16777216 % 256

  abbrev dir₁ : List ℕ
  dir₁ = set dir (i * 16 + 12) a

  abbrev dir₂ : List ℕ
  dir₂ = set dir₁ (i * 16 + 13) b

  abbrev dir₃ : List ℕ
  dir₃ = set dir₂ (i * 16 + 14) c

  -- byte by byte
  plain : with_size dir i n ≡ set dir₃ (i * 16 + 15) d
  unfolding with_size
  plain =
      let p₁ : suc (i * 16 + 12) ≡ i * 16 + 13 = omega arith in
      let p₂ : suc (suc (i * 16 + 12)) ≡ i * 16 + 14 = omega arith in
      let p₃ : suc (suc (suc (i * 16 + 12))) ≡ i * 16 + 15 = omega arith in
      λ t. set (set (set dir₁ (p₁ t) b) (p₂ t) c) (p₃ t) d

  long₁ : length dir₁ ≡ length dir
  long₁ = length-set dir (i * 16 + 12) a

  long₂ : length dir₂ ≡ length dir
  long₂ = length-set dir₁ (i * 16 + 13) b ∙ long₁

  long₃ : length dir₃ ≡ length dir
  long₃ = length-set dir₂ (i * 16 + 14) c ∙ long₂

  pub with_size-long : length (with_size dir i n) ≡ length dir
  with_size-long = ap length plain ∙ length-set dir₃ (i * 16 + 15) d ∙ long₃

  pub with_size-other : (j : ℕ) → j * 16 + 16 ≤ length dir → (j ≡ i → ⊥) → entry (with_size dir i n) j ≡ entry dir j
  with_size-other j h ne =
      ap (λ (l : List ℕ). entry l j) plain
      ∙ cell-set-other 16 dir₃ i 15 d (omega arith) j (omega (arith, long₃)) ne ∙ cell-set-other 16 dir₂ i 14 c (omega arith) j (omega (arith, long₂)) ne
      ∙ cell-set-other 16 dir₁ i 13 b (omega arith) j (omega (arith, long₁)) ne ∙ cell-set-other 16 dir i 12 a (omega arith) j h ne

  pub with_size-same : entry (with_size dir i n) i ≡ e₄ (entry dir i) (n % 256) (n / 256 % 256) (n / 65536 % 256) (n / 16777216 % 256) (length-cell 16 dir i fits)
  with_size-same =
      ap (λ (l : List ℕ). entry l i) plain
      ∙ cell-set-same 16 dir₃ i 15 d (omega arith)
      ∙ ap (λ (x : List ℕ). set x 15 d) (cell-set-same 16 dir₂ i 14 c (omega arith)
      ∙ ap (λ (x : List ℕ). set x 14 c) (cell-set-same 16 dir₁ i 13 b (omega arith) ∙ ap (λ (x : List ℕ). set x 13 b) (cell-set-same 16 dir i 12 a (omega arith))))

-- four bytes, low byte first
four_bytes : (n : ℕ) → n < 4294967296 → n % 256 + 256 * (n / 256 % 256) + 65536 * (n / 65536 % 256) + 16777216 * (n / 16777216 % 256) ≡ n
four_bytes n h =
    let z : n / 16777216 % 256 ≡ n / 16777216 = omega arith in
    ap (λ (x : ℕ). n % 256 + 256 * (n / 256 % 256) + 65536 * (n / 65536 % 256) + 16777216 * x) z ∙ whole n
  where
    whole : (n : ℕ) → n % 256 + 256 * (n / 256 % 256) + 65536 * (n / 65536 % 256) + 16777216 * (n / 16777216) ≡ n
    whole n = omega arith

-- ---- the move

pub grow-says : (free : ℕ) (e : List ℕ) (more : ℕ) → can_grow free e more ≡ true
    → (kind e ≡ 0 → ⊥) × (size e + more < 4294967296) × (needed_for (size e) more ≤ free)
unfolding can_grow
grow-says free e more h =
    let r = and_right (not (eqb (kind e) 0)) _ h in (
      λ z. false≢true (sym (ap not (eq-eqb (kind e) 0 z)) ∙ and_left (not (eqb (kind e) 0)) _ h),
      ltb-true _ _ (and_left (ltb (size e + more) 4294967296) _ r),
      leb-true _ _ (and_right (ltb (size e + more) 4294967296) _ r),
    )

module _ (st ls dir : List ℕ) (i : ℕ) (bytes : List ℕ) (h : store_sound st ls dir ≡ true) (bi : i < entries dir) (can : can_grow (free_count ls) (entry dir i) (length bytes) ≡ true) where
  s : Sound st ls dir
  s = sound-facts st ls dir h

  abbrev E : ℕ
  E = entries dir

  abbrev e : List ℕ
  e = entry dir i

  abbrev total : ℕ
  total = size e + length bytes

  abbrev dir' : List ℕ
  dir' = with_size dir i total

  stored : kind e ≡ 0 → ⊥
  stored = (grow-says (free_count ls) e (length bytes) can).0

  bound : total < 4294967296
  bound = (grow-says (free_count ls) e (length bytes) can).1

  enough : needed_for (size e) (length bytes) ≤ free_count ls
  enough = (grow-says (free_count ls) e (length bytes) can).2

  long : length e ≡ 16
  long = length-cell 16 dir i (inside dir i bi)

  abbrev e' : List ℕ
  e' = e₄ e (total % 256) (total / 256 % 256) (total / 65536 % 256) (total / 16777216 % 256) long

  here : entry dir' i ≡ e'
  here = with_size-same dir i total (inside dir i bi)

  other : (j : ℕ) → j < E → (j ≡ i → ⊥) → entry dir' j ≡ entry dir j
  other j b ne = with_size-other dir i total (inside dir i bi) j (inside dir j b) ne

  kind' : kind e' ≡ kind e
  kind' = sized-kind e _ _ _ _ long

  name' : name e' ≡ name e
  name' = sized-name e _ _ _ _ long

  size' : size e' ≡ total
  size' = sized-size e _ _ _ _ long ∙ four_bytes total bound

  count : counts dir i ≡ needed (size e)
  count = many-some st ls dir i stored

  last : ℕ
  last = walk ls (firsts dir i) (counts dir i - 1)

  last-is : last_of ls e ≡ last
  unfolding last_of last
  last-is = ap (walk ls (firsts dir i)) (let z : min (needed (size e)) (length ls) - 1 ≡ counts dir i - 1 = omega (arith, count, chain-few st ls dir s.links i bi) in z)

  last-held : 0 < times last (chain ls (firsts dir i) (counts dir i))
  unfolding last
  last-held =
      let z : suc (counts dir i - 1) ≡ counts dir i = omega (arith, count) in
      subst (λ (n : ℕ). 0 < times (walk ls (firsts dir i) (counts dir i - 1)) (chain ls (firsts dir i) n)) z (last-in ls (firsts dir i) (counts dir i - 1))

  last-below : last < length ls
  last-below = held_below ls (firsts dir) (counts dir) E s.links i bi last last-held

  room : Room st ls last (size e) (length bytes)
  room = record {
    long = lent-store st ls dir s.lent;
    small = lent-few st ls dir s.lent;
    inside = last-below;
    held = λ k. omega (arith, last-held, free-out ls (firsts dir) (counts dir) E s.links i bi last last-below k);
    fits = bound;
    enough = omega (arith, enough);
  }

  grows : Grows st ls (firsts dir) (counts dir) (sizes_of dir) E i last
  unfolding last
  grows = record {
    links = s.links;
    bytes = s.bytes;
    count = count;
    final = λ k z. ap (λ (n : ℕ). walk ls (firsts dir i) n) (let x : counts dir i - 1 ≡ k = omega arith in x);
  }

  abbrev g : Growing
  g = put_all (growing st ls last (size e)) bytes

  more : Appended st ls g (firsts dir) (counts dir) (sizes_of dir) (counts dir') (sizes_of dir') E i bytes
  more = append-sound bytes st ls (firsts dir) (counts dir) (sizes_of dir) (counts dir') (sizes_of dir') E i last bi grows room
      (ap size here ∙ size')
      (many-some st ls dir' i (λ z. stored (sym kind' ∙ sym (ap kind here) ∙ z)))
      (λ j b ne. ap size (other j b ne)) (λ j b ne. ap many (other j b ne))

  firsts' : (j : ℕ) → j < E → firsts dir' j ≡ firsts dir j
  firsts' j b = ⊎_elim (λ (z : j ≡ i). rw z (ap first here ∙ sized-first e _ _ _ _ long)) (λ (ne : j ≡ i → ⊥). ap first (other j b ne)) (same? j i)

  links' : Linked g.links (firsts dir') (counts dir') E
  links' =
      let l = more.grown.links in
      let u : ((q : ℕ) → sum_to (λ (j : ℕ). times q (chain g.links (firsts dir' j) (counts dir' j))) E ≡ sum_to (λ (j : ℕ). times q (chain g.links (firsts dir j) (counts dir' j))) E) =
      λ q. Rattle.cells.proofs.Counts.sum_same _ _ E (λ j b. ap (λ (p : ℕ). times q (chain g.links p (counts dir' j))) (firsts' j b)) in
      record { chained = λ j b n. rw (firsts' j b) (l.chained j b n); free = λ q b k. u q ∙ l.free q b k; taken = λ q b n. u q ∙ l.taken q b n }

  bytes' : Filled g.store g.links (firsts dir') (counts dir') (sizes_of dir') E
  bytes' = record { blank = more.grown.bytes.blank; tailed = λ j b. rw (firsts' j b) (more.grown.bytes.tailed j b) }

  grown-is : grown (memory st ls dir) i bytes ≡ memory g.store g.links dir'
  unfolding grown
  grown-is = ap (λ (l : ℕ). memory (put_all (growing st ls l (size e)) bytes).store (put_all (growing st ls l (size e)) bytes).links dir') last-is

  sound' : Sound g.store g.links dir'
  sound' = changed-sound st ls dir g.store g.links dir' i e' s bi (put_all-store bytes (growing st ls last (size e))) (put_all-links bytes (growing st ls last (size e))) (with_size-long dir i total (inside dir i bi))
      here other (omega (arith, kind', s.kinds i bi)) (λ z. sized-legal e _ _ _ _ long ∙ s.names i bi stored)
      (λ p j b ne o oj q. ne (s.unique p j i b bi oj (rw kind' at o) (sym q ∙ name')))
      (λ z j b ne k. ne (s.single j i b bi k (sym kind' ∙ z))) (λ z. absurd (stored (sym kind' ∙ z))) links' bytes'

  -- the content is the old one and the new bytes
  content' : content_of g.store g.links e' ≡ content_of st ls e ++ bytes
  content' =
      let b' : i < entries dir' = subst (λ (n : ℕ). i < n / 16) (sym (with_size-long dir i total (inside dir i bi))) bi in
      ap (content_of g.store g.links) (sym here) ∙ content-at g.store g.links dir' sound' i b'
      ∙ ap (λ (p : ℕ). take (sizes_of dir' i) (bytes_of g.store (chain g.links p (counts dir' i)))) (firsts' i bi)
      ∙ more.content ∙ ap (λ (l : List ℕ). l ++ bytes) (sym (content-at st ls dir s i bi))

  pub grow-moved : Moved (memory st ls dir) (grown (memory st ls dir) i bytes) i (held (kind (entry dir i)) (name (entry dir i)) (content_of st ls (entry dir i) ++ bytes))
  grow-moved = rw grown-is
      (moved-is st ls dir g.store g.links dir' i e' s bi (put_all-store bytes (growing st ls last (size e))) (put_all-links bytes (growing st ls last (size e))) (with_size-long dir i total (inside dir i bi))
      here other (omega (arith, kind', s.kinds i bi)) (λ z. sized-legal e _ _ _ _ long ∙ s.names i bi stored)
      (λ p j b ne o oj q. ne (s.unique p j i b bi oj (rw kind' at o) (sym q ∙ name')))
      (λ z j b ne k. ne (s.single j i b bi k (sym kind' ∙ z))) (λ z. absurd (stored (sym kind' ∙ z))) links' bytes'
      (λ j b ne. ap (λ (p : ℕ). bytes_of g.store (chain g.links p (counts dir' j))) (firsts' j b) ∙ more.others j b ne)
      (λ j b ne. ap (λ (p : ℕ). chain g.links p (counts dir' j)) (firsts' j b) ∙ more.chains j b ne) _
      (λ t. held (kind' t) (name' t) (content' t)))
