-- What is kept in a small memory, computed: four portions, two entries, all clear.
use Rattle.std.specs.Prelude.{◌≡◌, refl, [], ◌∷◌, replicate}
use Rattle.cells.specs.Cell.{cell}
use Rattle.cells.specs.Scan.{lowest_from}
use Rattle.store.specs.Chain.{end_link, free_link}
use Rattle.store.specs.Entry.{first, size, last_of}
use Rattle.starting.specs.Start.{name_end, new_entry, begun}
use Rattle.starting.specs.Samples.{title, clear}
use Rattle.growing.specs.Grow.{next_last, next_links, with_size, grown}
use Rattle.growing.specs.Keep.{kept}

-- 300 bytes are kept in portions 0 and 1
keeps : (kept clear 2 title (replicate 300 7)).links ≡ 1 ∷ end_link ∷ free_link ∷ free_link ∷ []
unfolding kept begun grown last_of with_size next_last next_links lowest_from cell name_end new_entry first size
keeps = refl
