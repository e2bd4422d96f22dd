-- The directory with its contents as one list, the shelf: what a reader of the store sees.
use Rattle.std.specs.Prelude.{List, [], ◌∷◌, ◌++◌, Bool, cond, ◌&&◌, ℕ, zero, suc, leb}
use Rattle.store.specs.Entry.{entries, entry, kind, name, of_kind}
use Rattle.contents.specs.Content.{content_of}
use Rattle.cells.specs.Count.{all_to}
use Rattle.memory.specs.Memory.{Memory}
use Rattle.starting.specs.Start.{name_end}
use Rattle.store_sound.specs.Sound.{name_byte_ok}

-- f 0 , .. , f (n - 1)
abbrev pub list_to : {A : Type 0} → (ℕ → A) → ℕ → List A
list_to f zero = []
list_to f (suc n) = list_to f n ++ (f n ∷ [])

-- an entry as it is seen: kind, name of 8 zero-filled bytes, content
pub record Held : Type 0 where
  pub kind : ℕ
  pub name : List ℕ
  pub bytes : List ℕ

abbrev pub held : ℕ → List ℕ → List ℕ → Held
held k n b = record { kind = k; name = n; bytes = b }

-- an empty entry
abbrev pub nothing : Held
nothing = held 0 (0 ∷ 0 ∷ 0 ∷ 0 ∷ 0 ∷ 0 ∷ 0 ∷ 0 ∷ []) []

abbrev pub held_of : List ℕ → List ℕ → List ℕ → Held
held_of store links e = held (kind e) (name e) (content_of store links e)

unfoldable pub shelf : List ℕ → List ℕ → List ℕ → List Held
shelf store links directory = list_to (λ i. held_of store links (entry directory i)) (entries directory)

abbrev pub shelf_of : Memory → List Held
shelf_of m = shelf m.store m.links m.directory

-- a name that an entry may bear: 8 bytes, 1 to 8 of them legal and in capitals, then zeros
unfoldable pub title_ok : List ℕ → Bool
title_ok n = (leb 1 (name_end n) && leb (name_end n) 8) && all_to (name_byte_ok (name_end n) n) 8

-- what is left of an entry when all of a kind are erased
abbrev pub swept : Bool → Held → Held
swept picture h = cond (of_kind picture h.kind) nothing h
