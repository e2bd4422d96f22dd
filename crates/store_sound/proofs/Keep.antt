-- An entry is kept whole: started, and its bytes put behind it.
use mathlib.Core.Path.{◌≡◌, refl, sym, ap, ◌∙◌, subst}
use mathlib.Core.List.{List, [], ◌++◌}
use mathlib.Core.Bool.{true, not}
use Prim.Native.Nat.{ℕ, ◌+◌, ◌-◌, ◌/◌, ◌≤◌, ◌<◌}
use native.Mathlib.Omega.{arith}
use lib.ListN.{length, get_or, set}
use borrow.Author.Tests.{ne_eqb, le-leb, lt-ltb}
use Rattle.cells.specs.Cell.{set_cell}
use Rattle.cells.proofs.Counts.{one-yes, one-no}
use Rattle.cells.proofs.Cells.{set_cell-same}
use Rattle.store.specs.Chain.{needed, free_count}
use Rattle.store.specs.Entry.{entries, entry, kind, name}
use Rattle.contents.specs.Content.{content_of}
use Rattle.memory.specs.Memory.{memory}
use Rattle.ground.proofs.Tests.{and_both}
use Rattle.store_sound.specs.Shelf.{Held, held}
use Rattle.store_sound.proofs.Moving.{Moved, moved_twice, inside}
use Rattle.room.specs.Room.{lowest_portion, can_grow, lowest_entry, has_room}
use Rattle.growing.specs.Grow.{grown}
use Rattle.starting.specs.Start.{new_entry, begun}
use Rattle.growing.specs.Keep.{kept}
use Rattle.store_sound.proofs.Room.{lowest-below, lowest-free, times-set}
use Rattle.store_sound.proofs.Start.{MayStart, room_says, begin-moved, new-long, new-kind, new-size, new-name, new-content}
use Rattle.store_sound.proofs.Grow.{grow-moved}

module _ (st ls dir : List ℕ) (k : ℕ) (n : List ℕ) (bytes : List ℕ) (a : MayStart st ls dir k n) (short : length bytes < 4294967296)
    (room : has_room (free_count ls) dir (length bytes) ≡ true) where
  bi : lowest_entry dir < entries dir
  bi = (room_says (free_count ls) dir (length bytes) room).0

  free : needed (length bytes) ≤ free_count ls
  free = (room_says (free_count ls) dir (length bytes) room).1

  room₀ : has_room (free_count ls) dir 0 ≡ true
  unfolding has_room
  room₀ = and_both _ _ (lt-ltb (lowest_entry dir) (entries dir) bi) (le-leb 1 (free_count ls) (omega (arith, free)))

  abbrev i : ℕ
  i = lowest_entry dir

  abbrev q : ℕ
  q = lowest_portion ls

  abbrev dir₁ : List ℕ
  dir₁ = set_cell 16 dir i (new_entry k n q)

  abbrev ls₁ : List ℕ
  ls₁ = set ls q 65534

  begun-is : begun (memory st ls dir) k n ≡ memory st ls₁ dir₁
  unfolding begun
  begun-is = refl

  m₁ : Moved (memory st ls dir) (memory st ls₁ dir₁) i (held k n [])
  m₁ = rw begun-is at (begin-moved st ls dir k n a room₀)

  here : entry dir₁ i ≡ new_entry k n q
  here = set_cell-same 16 dir i (new_entry k n q) (new-long k n q) (inside dir i bi)

  bi₁ : i < entries dir₁
  bi₁ = subst (λ (l : ℕ). i < l / 16) (sym m₁.long-directory) bi

  -- one portion less is free
  one_less : free_count ls₁ + 1 ≡ free_count ls
  one_less =
      let b = lowest-below ls (omega (arith, free)) in
      omega (arith, times-set 65535 ls q 65534 b, one-yes (get_or ls q 0) 65535 (lowest-free ls b), one-no 65534 65535 (λ z. omega arith))

  can₁ : can_grow (free_count ls₁) (entry dir₁ i) (length bytes) ≡ true
  unfolding can_grow
  can₁ =
      rw (here, new-size k n q) (and_both _ _ (ap not (ne_eqb (kind (new_entry k n q)) 0 (λ z. omega (arith, new-kind k n q, a.some))))
      (and_both _ _ (lt-ltb (0 + length bytes) 4294967296 (omega (arith, short)))
      (le-leb (needed (0 + length bytes) - needed 0) (free_count ls₁) (omega (arith, free, one_less)))))

  pub keep-moved : Moved (memory st ls dir) (kept (memory st ls dir) k n bytes) (lowest_entry dir) (held k n bytes)
  unfolding kept
  keep-moved =
      let m₂ = grow-moved st ls₁ dir₁ i bytes m₁.sound bi₁ can₁ in
      let x : held (kind (entry dir₁ i)) (name (entry dir₁ i)) (content_of st ls₁ (entry dir₁ i) ++ bytes) ≡ held k n bytes =
      ap (λ (e : List ℕ). held (kind e) (name e) (content_of st ls₁ e ++ bytes)) here ∙ (λ t. held (new-kind k n q t) (new-name k n q a.long t) (new-content k n q st ls₁ t ++ bytes)) in
      rw begun-is (moved_twice (memory st ls dir) (memory st ls₁ dir₁) (grown (memory st ls₁ dir₁) i bytes) i (held k n []) (held k n bytes) m₁
      (subst (λ (y : Held). Moved (memory st ls₁ dir₁) (grown (memory st ls₁ dir₁) i bytes) i y) x m₂))
