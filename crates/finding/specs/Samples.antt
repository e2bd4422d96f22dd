-- What is found in a small memory, computed: four portions, two entries, a form "A" in portions 2 and 0.
use Rattle.std.specs.Prelude.{◌≡◌, refl, [], ◌∷◌, true, false, set, None, Some}
use Prim.Native.Char.{code}
use Rattle.cells.specs.Cell.{cell}
use Rattle.cells.specs.Scan.{lowest_from}
use Rattle.store.specs.Samples.{links, directory}
use Rattle.finding.specs.Find.{found, lowest_free, lowest_empty, recorded, same_name, titled, titled_at}

free : lowest_free links ≡ Some 1
unfolding found lowest_from
free = refl

empty : lowest_empty directory ≡ Some 1
unfolding found lowest_from cell
empty = refl

-- "1 and 3 are one kind": a form that is being recorded is found by its name, as a form and not as a picture
by_name : titled_at (set directory 0 3) false (code "A" ∷ 0 ∷ 0 ∷ 0 ∷ 0 ∷ 0 ∷ 0 ∷ 0 ∷ []) ≡ Some 0
unfolding found lowest_from titled same_name cell
by_name = refl

no-picture : titled_at (set directory 0 3) true (code "A" ∷ 0 ∷ 0 ∷ 0 ∷ 0 ∷ 0 ∷ 0 ∷ 0 ∷ []) ≡ None
unfolding found lowest_from titled same_name cell
no-picture = refl

none-recorded : recorded directory ≡ None
unfolding found lowest_from cell
none-recorded = refl
