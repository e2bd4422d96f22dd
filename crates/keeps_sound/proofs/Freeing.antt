-- The number of free portions after each command that stores or erases: by its definition it is that of the links marked free.
-- Assumes nothing.
use mathlib.Core.Path.{◌≡◌, sym, ap, ◌∙◌}
use mathlib.Core.Bool.{Bool, true}
use mathlib.Core.List.{List}
use Prim.Native.Nat.{ℕ, ◌+◌, ◌-◌, ◌≤◌, ◌<◌}
use native.Mathlib.Omega.{arith}
use lib.ListN.{length}
use Rattle.store.specs.Chain.{needed, free_count}
use Rattle.store.specs.Entry.{entries, entry, kind, size}
use Rattle.memory.specs.Memory.{Memory}
use Rattle.erasing.specs.Erase.{erased_all}
use Rattle.store_sound.specs.Sound.{counts, store_sound}
use Rattle.store_sound.specs.Shelf.{Held}
use Rattle.store_sound.proofs.Facts.{sound-facts, lent-few, many-none, many-some}
use Rattle.store_sound.proofs.Moving.{Moved}
use Rattle.store_sound.proofs.EraseAll.{erase-all-moved}
use Rattle.store_sound.proofs.Free.{calls, all-portions, free-after, free-after-all}
use Rattle.free_number.specs.After.{after_stored, after_grown, after_erased, after_erased_all}
use Rattle.session.specs.declared.Session.{Session}
use Rattle.lent.specs.Lent.{World}
use Rattle.results.specs.World.{memory_of}
use Rattle.keeps_sound.specs.Good.{Good}

-- a number of free portions has its 16 bits
free-few : (st ls dir : List ℕ) → store_sound st ls dir ≡ true → free_count ls ≤ 2024
free-few st ls dir h =
    let s = sound-facts st ls dir h in
    omega (arith, all-portions st ls dir s, lent-few st ls dir s.lent)

-- ---- one entry moves

module _ (s : Session) (w : World) (g : Good s w) (m' : Memory) (i : ℕ) (x : Held) (v : Moved (memory_of w) m' i x) (b : i < entries w.directory) where
  -- what the entry called for is free, but for what now stands in its place
  free-then : free_count m'.links + calls x ≡ s.free + counts w.directory i
  free-then = free-after (memory_of w) m' i x v b g.store ∙ ap (λ (n : ℕ). n + counts w.directory i) (sym g.free)

  -- FS and GM: a new entry where there was none
  pub number-stored : kind (entry w.directory i) ≡ 0 → calls x ≡ needed (length x.bytes) → (after_stored s (length x.bytes)).free ≡ free_count m'.links
  number-stored z c = omega (arith, free-then, many-none w.store w.links w.directory i z, c)

  -- FE
  pub number-stays : calls x ≡ counts w.directory i → s.free ≡ free_count m'.links
  number-stays c = omega (arith, free-then, c)

  -- FK and GK
  pub number-erased : calls x ≡ 0 → (after_erased s (entry w.directory i)).free ≡ free_count m'.links
  number-erased c = omega (arith, free-then, c, free-few m'.store m'.links m'.directory v.sound)

-- a recorded line: bytes put behind those of an entry
pub number-grown :
    (s : Session) (w : World) → Good s w → (m' : Memory) (i more : ℕ) (x : Held) → Moved (memory_of w) m' i x → i < entries w.directory →
    (kind (entry w.directory i) ≡ 0 → ⊥) → calls x ≡ needed (size (entry w.directory i) + more) → (after_grown s (entry w.directory i) more).free ≡ free_count m'.links
number-grown s w g m' i more x v b stored c =
    omega (arith, free-then s w g m' i x v b, many-some w.store w.links w.directory i stored, c)

-- ---- all of a kind are erased

pub number-swept : (s : Session) (w : World) → Good s w → (picture : Bool) → (after_erased_all s picture w.directory).free ≡ free_count (erased_all picture (memory_of w)).links
number-swept s w g picture =
    let m' = erased_all picture (memory_of w) in
    omega (arith, free-after-all picture (memory_of w) g.store, g.free, free-few m'.store m'.links m'.directory (erase-all-moved picture (memory_of w) g.store).sound)
