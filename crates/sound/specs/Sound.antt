-- Paper 01: "Sound means: ..", one named test a clause, in its order and words, and what paper 02 adds to it. A test takes only what it reads.
-- Assumes nothing.
use Rattle.std.specs.Prelude.{ℕ, Bool, ◌&&◌, List, leb}
use Rattle.kinds.specs.Bytes.{between}
use Rattle.calendar.specs.declared.Clock.{Clock}
use Rattle.calendar.specs.Clock.{legal_clock}
use Rattle.formats.specs.declared.Formats.{Formats}
use Rattle.formats.specs.Formats.{legal_formats}
use Rattle.outside.specs.Outside.{white_outside}
use Rattle.store_sound.specs.Sound.{store_sound}
use Rattle.free_number.specs.Number.{free_number}
use Rattle.content_check.specs.Contents.{contents_ok}
use Rattle.activity_check.specs.Activity.{activity_sound}
use Rattle.session.specs.declared.Session.{Session}
use Rattle.session.specs.Session.{least_width, most_width, most_x, most_y}
use Rattle.lent.specs.Lent.{World, rows_of}
unfoldable pub use Rattle.activity_check.specs.Active.{active_bytes}

-- "these numbers in their ranges; length at most N"
unfoldable pub numbers_ok : ℕ → Session → Bool
numbers_ok rows s =
    between least_width most_width s.width && (between 1 rows s.length && (leb s.turn 1 && (leb s.x most_x && leb s.y most_y)))

-- "Sound covers clock and formats" (paper 02, §10)
unfoldable pub times_ok : Clock → Formats → Bool
times_ok clock formats = legal_clock clock && legal_formats formats

-- "no background dot outside width by length"
unfoldable pub background_ok : ℕ → ℕ → List ℕ → Bool
background_ok width length background = white_outside width length background

-- "names upper-case, legal, unique per kind (1 and 3 are one kind); at most one entry of kind 3; each chain of exactly size/256 rounded up, at least
-- one, portions; no portion in two chains; all others free; unused bytes zero" is `store_sound` of crate `store_sound`

-- "Sound now also means that this number equals the portions of the lent store less those that the stored sizes call for" (paper 02, §6) is `free_number` of crate
-- `free_number`

-- "each form a row of normalised lines that recording would take one after another (presence of pictures aside); each picture legal" is `contents_ok` of
-- crate `content_check`

-- "the active form a stored one; set values fit its declarations, undeclared ones unset; owed plus drawn at most 65,535; labels owed only when nothing is
-- recorded, all declared values are set and the pictures exist", and while labels are owed the same of each counter as for P (paper 02, §3), is `activity_sound` of
-- crate `activity_check`

unfoldable pub sound : Session → World → Bool
sound s w =
    numbers_ok (rows_of w) s
    && (times_ok s.clock s.formats
    && (background_ok s.width s.length w.background
    && (store_sound w.store w.links w.directory
    && (free_number w.links w.directory s.free
    && (contents_ok w.store w.links w.directory
    && activity_sound s w.directory (active_bytes w.store w.links w.directory s.active) w.values)))))
