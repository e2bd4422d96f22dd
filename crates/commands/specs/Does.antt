-- What a command does, once it is taken: to the session, to the lent lists, and to the output.
-- Assumes nothing.
use Rattle.std.specs.Prelude.{ℕ, ◌+◌, List, [], ◌∷◌, ◌++◌, length, Result, Ok, Err, None, Option, Some}
use Rattle.read.specs.declared.Fault.{Fault}
use Rattle.store.specs.Entry.{entry}
use Rattle.finding.specs.Find.{recorded}
use Rattle.growing.specs.Grow.{grown}
use Rattle.starting.specs.Start.{finished}
use Rattle.grammar.specs.declared.Command.{Command}
use Rattle.grammar.specs.declared.Command.TheVariants.{Item as item, End, Page, Forms, Pictures, Values, Listing, Clock}
use Rattle.normal.specs.Written.{normal}
use Rattle.session.specs.declared.Session.{Session}
use Rattle.free_number.specs.After.{after_grown}
use Rattle.lent.specs.Lent.{World, world}
use Rattle.results.specs.World.{State, state, memory_of, with_memory}
use Rattle.item_commands.specs.Items.{item_runs}
use Rattle.page_commands.specs.Page.{page_runs}
use Rattle.form_commands.specs.Forms.{form_runs}
use Rattle.picture_commands.specs.Pictures.{picture_runs}
use Rattle.value_commands.specs.Values.{value_runs}
use Rattle.listing_commands.specs.Listings.{listed_by}
use Rattle.clock_commands.specs.Clocks.{clock_runs}

-- "A recorded line is checked and kept, not run", in normal form and with its LF; with the number of free portions after it
abbrev pub recorded_line : World → ℕ → List ℕ → World
recorded_line w i line = with_memory w (grown (memory_of w) i (normal line ++ (10 ∷ [])))

abbrev pub recorded_room : Session → World → ℕ → List ℕ → Session
recorded_room s w i line = after_grown s (entry w.directory i) (length (normal line) + 1)

-- FE: the form being recorded is a stored one
abbrev pub ended_at : World → ℕ → World
ended_at w i = world w.background w.store w.links (finished w.directory i) w.values

-- while the form of entry i is recorded
abbrev pub records : World → Session → List ℕ → ℕ → Command → State
records w s line i (item it) = state (recorded_room s w i line) (recorded_line w i line)
records w s line i End = state s (ended_at w i)
records w s line i (Page c) = state s w
records w s line i (Forms c) = state s w
records w s line i (Pictures c) = state s w
records w s line i (Values c) = state s w
records w s line i (Listing c) = state s w
records w s line i (Clock c) = state s w

-- otherwise
abbrev pub runs : List ℕ → World → Session → List ℕ → List ℕ → Command → State
runs font w s line more (item it) = item_runs font w s line it
runs font w s line more End = state s w
runs font w s line more (Page c) = page_runs w s c
runs font w s line more (Forms c) = form_runs w s line c
runs font w s line more (Pictures c) = picture_runs w s line more c
runs font w s line more (Values c) = value_runs w s line c
runs font w s line more (Listing c) = state s w
runs font w s line more (Clock c) = clock_runs w s c

abbrev pub placed : List ℕ → World → Session → List ℕ → List ℕ → Command → Option ℕ → State
placed font w s line more c (Some i) = records w s line i c
placed font w s line more c None = runs font w s line more c

abbrev pub does : List ℕ → World → Session → List ℕ → List ℕ → Command → State
does font w s line more c = placed font w s line more c (recorded w.directory)

-- what a command writes to the output: listings alone write
abbrev pub listed : World → List ℕ → Command → List ℕ
listed w line (item it) = []
listed w line End = []
listed w line (Page c) = []
listed w line (Forms c) = []
listed w line (Pictures c) = []
listed w line (Values c) = []
listed w line (Listing c) = listed_by w line c
listed w line (Clock c) = []

-- a line that was read
abbrev pub does_line : List ℕ → World → Session → List ℕ → List ℕ → Result Command Fault → State
does_line font w s line more (Ok c) = does font w s line more c
does_line font w s line more (Err f) = state s w

abbrev pub lists_line : World → List ℕ → Result Command Fault → List ℕ
lists_line w line (Ok c) = listed w line c
lists_line w line (Err f) = []
