-- Which small memories are sound, computed: four portions, two entries.
use Rattle.std.specs.Prelude.{◌≡◌, refl, List, [], ◌∷◌, ◌++◌, true, false, ℕ, set, replicate}
use Prim.Native.Char.{code}
use Rattle.cells.specs.Cell.{cell}
use Rattle.cells.specs.Scan.{lowest_from}
use Rattle.store.specs.Chain.{end_link, free_link}
use Rattle.store.specs.Entry.{name, first, size, many, last_of}
use Rattle.finding.specs.Find.{found, same_name, titled}
use Rattle.store_sound.specs.Shelf.{held, nothing, swept}
use Rattle.store_sound.specs.Sound.{lent_ok, kinds_ok, legal_byte, name_byte_ok, name_ok, names_ok, unique_ok, uniques_ok, single_ok, singles_ok, portion_ok, links_ok, empties_ok, frees_ok, tail_of, tails_ok, store_sound}

abbrev bytes : List ℕ
bytes = replicate 1024 0

-- nothing is stored
clear : store_sound bytes (replicate 4 free_link) (replicate 32 0) ≡ true
unfolding store_sound lent_ok kinds_ok names_ok uniques_ok unique_ok singles_ok single_ok links_ok portion_ok empties_ok frees_ok tails_ok found lowest_from titled same_name name name_ok name_byte_ok legal_byte tail_of last_of first size many cell
clear = refl

-- a form "A" of 300 bytes in portions 2 and 0
abbrev links : List ℕ
links = end_link ∷ free_link ∷ 0 ∷ free_link ∷ []

abbrev form : List ℕ
form = 1 ∷ 1 ∷ code "A" ∷ (replicate 7 0 ++ (2 ∷ 0 ∷ 44 ∷ 1 ∷ 0 ∷ 0 ∷ []))

one : store_sound bytes links (form ++ replicate 16 0) ≡ true
unfolding store_sound lent_ok kinds_ok names_ok uniques_ok unique_ok singles_ok single_ok links_ok portion_ok empties_ok frees_ok tails_ok found lowest_from titled same_name name name_ok name_byte_ok legal_byte tail_of last_of first size many cell
one = refl

-- a portion that is taken and in no chain
lost : store_sound bytes (set links 3 end_link) (form ++ replicate 16 0) ≡ false
unfolding store_sound lent_ok kinds_ok names_ok uniques_ok unique_ok singles_ok single_ok links_ok portion_ok empties_ok frees_ok tails_ok found lowest_from titled same_name name name_ok name_byte_ok legal_byte tail_of last_of first size many cell
lost = refl

-- a chain that runs in a circle
round : store_sound bytes (set links 0 2) (form ++ replicate 16 0) ≡ false
unfolding store_sound lent_ok kinds_ok names_ok uniques_ok unique_ok singles_ok single_ok links_ok portion_ok empties_ok frees_ok tails_ok found lowest_from titled same_name name name_ok name_byte_ok legal_byte tail_of last_of first size many cell
round = refl

-- a byte behind the size
dirt : store_sound (set bytes 44 7) links (form ++ replicate 16 0) ≡ false
unfolding store_sound lent_ok kinds_ok names_ok uniques_ok unique_ok singles_ok single_ok links_ok portion_ok empties_ok frees_ok tails_ok found lowest_from titled same_name name name_ok name_byte_ok legal_byte tail_of last_of first size many cell
dirt = refl

-- a form that is being recorded under the name of another form; a picture may bear the name
abbrev second : ℕ → List ℕ
second k = k ∷ 1 ∷ code "A" ∷ (replicate 7 0 ++ (1 ∷ replicate 5 0))

twice : store_sound bytes (set links 1 end_link) (form ++ second 3) ≡ false
unfolding store_sound lent_ok kinds_ok names_ok uniques_ok unique_ok singles_ok single_ok links_ok portion_ok empties_ok frees_ok tails_ok found lowest_from titled same_name name name_ok name_byte_ok legal_byte tail_of last_of first size many cell
twice = refl

other-kind : store_sound bytes (set links 1 end_link) (form ++ second 2) ≡ true
unfolding store_sound lent_ok kinds_ok names_ok uniques_ok unique_ok singles_ok single_ok links_ok portion_ok empties_ok frees_ok tails_ok found lowest_from titled same_name name name_ok name_byte_ok legal_byte tail_of last_of first size many cell
other-kind = refl

-- when all pictures are erased, a picture is gone and a form stays
abbrev title : List ℕ
title = code "A" ∷ replicate 7 0

picture-swept : swept true (held 2 title (7 ∷ [])) ≡ nothing
picture-swept = refl

form-stays : swept true (held 1 title (7 ∷ [])) ≡ held 1 title (7 ∷ [])
form-stays = refl
