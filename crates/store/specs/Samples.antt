-- What the definitions say of a small memory, computed: four portions, two entries, a form "A" of 300 bytes in portions 2 and 0.
use Rattle.std.specs.Prelude.{◌≡◌, refl, List, [], ◌∷◌, ◌++◌, true, false, ℕ, replicate}
use Prim.Native.Char.{code}
use Rattle.cells.specs.Cell.{cell}
use Rattle.store.specs.Chain.{end_link, free_link, chain, free_count}
use Rattle.store.specs.Entry.{entry, first, size, many, last_of, of_kind}

abbrev pub links : List ℕ
links = end_link ∷ free_link ∷ 0 ∷ free_link ∷ []

abbrev pub directory : List ℕ
directory = 1 ∷ 1 ∷ code "A" ∷ (replicate 7 0 ++ (2 ∷ 0 ∷ 44 ∷ 1 ∷ 0 ∷ 0 ∷ replicate 16 0))

its-chain : chain links (first (entry directory 0)) (many (entry directory 0)) ≡ 2 ∷ 0 ∷ []
unfolding cell first size many
its-chain = refl

its-last : last_of links (entry directory 0) ≡ 0
unfolding cell first size last_of
its-last = refl

counted : free_count links ≡ 2
counted = refl

-- "1 and 3 are one kind": a form's
recorded-form : of_kind false 3 ≡ true
recorded-form = refl

no-picture : of_kind true 3 ≡ false
no-picture = refl
