-- What erasing does to a small memory, computed: four portions, two entries, a picture "A" of 300 bytes in portions 0 and 1.
use Rattle.std.specs.Prelude.{◌≡◌, refl, List, [], ◌∷◌, ◌++◌, set, replicate}
use Prim.Native.Char.{code}
use Rattle.cells.specs.Cell.{cell, zeros}
use Rattle.store.specs.Chain.{end_link, free_link}
use Rattle.store.specs.Entry.{first, size, many}
use Rattle.memory.specs.Memory.{memory}
use Rattle.erasing.specs.Erase.{freed, erased}

-- the memory is clear again
erases : erased (memory (set (set (replicate 1024 0) 5 7) 300 7) (1 ∷ end_link ∷ free_link ∷ free_link ∷ []) (2 ∷ 1 ∷ code "A" ∷ (replicate 9 0 ++ (44 ∷ 1 ∷ replicate 18 0)))) 0
    ≡ memory (replicate 1024 0) (replicate 4 free_link) (replicate 32 0)
unfolding erased freed cell zeros first size many
erases = refl
