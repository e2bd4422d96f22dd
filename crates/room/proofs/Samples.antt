-- Where room is in a small memory, computed: of four portions 1 and 3 are free, of two entries the second is empty; a form "A" of 300 bytes.
use Rattle.std.specs.Prelude.{◌≡◌, refl, true, false}
use Rattle.cells.specs.Cell.{cell}
use Rattle.cells.specs.Scan.{lowest_from}
use Rattle.store.specs.Entry.{entry, size}
use Rattle.store.specs.Samples.{links, directory}
use Rattle.room.specs.Room.{lowest_portion, lowest_entry, empty_count, has_room, can_grow}

-- the lowest free, not the highest
portion : lowest_portion links ≡ 1
unfolding lowest_from
portion = refl

an-entry : lowest_entry directory ≡ 1
unfolding lowest_from cell
an-entry = refl

one-empty : empty_count directory ≡ 1
unfolding cell
one-empty = refl

-- 512 bytes take the last portions that are free; for one more there is no room
fills : has_room 2 directory 512 ≡ true
unfolding has_room lowest_from cell
fills = refl

too_much : has_room 2 directory 513 ≡ false
unfolding has_room lowest_from cell
too_much = refl

-- the form has 212 bytes of its second portion left
grows : can_grow 2 (entry directory 0) 724 ≡ true
unfolding can_grow cell size
grows = refl

no_more : can_grow 2 (entry directory 0) 725 ≡ false
unfolding can_grow cell size
no_more = refl
