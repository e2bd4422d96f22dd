-- What is left of a small memory, computed: a store of one portion and a part of another, five links, three entries.
-- Assumes nothing.
use Rattle.std.specs.Prelude.{◌≡◌, refl, List, [], ◌∷◌, ◌++◌, ℕ, replicate}
use Prim.Native.Char.{code}
use Rattle.store.specs.Chain.{end_link, free_link}
use Rattle.memory.specs.Memory.{Memory, memory}
use Rattle.verdicts.specs.Verdicts.{Known, known, unsaid, kept, for_chain}
use Rattle.mending.specs.Mending.{kept_byte, kept_directory, kept_link, kept_links, kept_content, kept_store, mended_by}

-- an entry of kind 1 with a name of one byte
abbrev entry_of : ℕ → List ℕ
entry_of n = 1 ∷ 1 ∷ n ∷ (replicate 7 0 ++ (1 ∷ 0 ∷ 3 ∷ 0 ∷ 0 ∷ 0 ∷ []))

-- every byte of the store is 7; portions 0 and 3 run in a circle
damaged : Memory
damaged = memory (replicate 300 7) (3 ∷ end_link ∷ 4 ∷ 0 ∷ end_link ∷ []) (entry_of (code "A") ++ (entry_of (code "B") ++ (0 ∷ replicate 15 9)))

-- "A" is kept, and "B" dropped for its chain; three kept bytes lie in portion 1, 256 in portion 2 and none in portion 4, which ends its chain
said : Known
said = known (kept ∷ for_chain ∷ unsaid ∷ []) (0 ∷ 4 ∷ 257 ∷ 0 ∷ 1 ∷ [])

-- portion 0, which is in no kept chain, is zeroed and free; of portion 1, as far as it is there, three bytes stay; entries that are not kept are zeroed
left : mended_by said damaged
    ≡ memory (replicate 256 0 ++ (7 ∷ 7 ∷ 7 ∷ replicate 41 0)) (free_link ∷ end_link ∷ 4 ∷ free_link ∷ end_link ∷ []) (entry_of (code "A") ++ replicate 32 0)
unfolding mended_by said damaged kept_store kept_content kept_links kept_link kept_directory kept_byte
left = refl

-- a portion that is kept whole stays to its last byte, and behind the kept bytes of the next nothing stays
whole : kept_store (replicate 260 7) (257 ∷ 2 ∷ []) ≡ replicate 257 7 ++ replicate 3 0
unfolding kept_store kept_content
whole = refl
