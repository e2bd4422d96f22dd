-- What starting and finishing do to a small memory, computed: four portions, two entries, all clear.
use Rattle.std.specs.Prelude.{◌≡◌, refl, List, [], ◌∷◌, ℕ, replicate}
use Prim.Native.Char.{code}
use Rattle.cells.specs.Cell.{cell}
use Rattle.cells.specs.Scan.{lowest_from}
use Rattle.store.specs.Chain.{end_link, free_link}
use Rattle.memory.specs.Memory.{Memory, memory}
use Rattle.starting.specs.Start.{name_end, new_entry, begun, finished}

abbrev pub title : List ℕ
title = code "A" ∷ code "B" ∷ 0 ∷ 0 ∷ 0 ∷ 0 ∷ 0 ∷ 0 ∷ []

abbrev pub clear : Memory
clear = memory (replicate 1024 0) (replicate 4 free_link) (replicate 32 0)

-- a form "AB" is started in the first entry and the first portion
begins : (begun clear 3 title).links ≡ end_link ∷ free_link ∷ free_link ∷ free_link ∷ []
unfolding begun lowest_from cell name_end new_entry
begins = refl

its-entry : (begun clear 3 title).directory ≡ 3 ∷ 2 ∷ code "A" ∷ code "B" ∷ replicate 28 0
unfolding begun lowest_from cell name_end new_entry
its-entry = refl

-- a form that is finished is kind 1, one that is not being recorded stays
finishes : finished (3 ∷ 2 ∷ code "A" ∷ code "B" ∷ replicate 28 0) 0 ≡ 1 ∷ 2 ∷ code "A" ∷ code "B" ∷ replicate 28 0
unfolding finished cell
finishes = refl

a-picture-stays : finished (2 ∷ 2 ∷ code "A" ∷ code "B" ∷ replicate 28 0) 0 ≡ 2 ∷ 2 ∷ code "A" ∷ code "B" ∷ replicate 28 0
unfolding finished cell
a-picture-stays = refl
