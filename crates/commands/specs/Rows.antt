-- Paper 01's table from 6 on: a row for each line of it that a command can give, in its order.
-- Assumes nothing.
use Rattle.std.specs.Prelude.{ℕ, ◌+◌, true, not, List, [], ◌∷◌, length, ltb, Option, Some, None, Result, Ok, Err}
use Rattle.grammar.specs.declared.Item.{Item}
use Rattle.declarations.specs.Declarations.{outside_forms}
use Rattle.store.specs.Entry.{entry}
use Rattle.finding.specs.Find.{recorded}
use Rattle.room.specs.Room.{can_grow}
use Rattle.grammar.specs.declared.Command.{Command}
use Rattle.grammar.specs.declared.Command.TheVariants.{Item as item, End, Page, Forms, Pictures, Values, Listing, Clock}
use Rattle.read.specs.declared.Fault.{Fault}
use Rattle.read.specs.declared.Fault.TheVariants.{Form as form, Limit}
use Rattle.normal.specs.Written.{normal}
use Rattle.forms.specs.Form.{declared_of}
use Rattle.kept_line.specs.Held.{held_command}
use Rattle.session.specs.declared.Session.{Session}
use Rattle.answers.specs.declared.Answer.{Answer}
use Rattle.answers.specs.declared.Answer.TheVariants.{Unwritten, Limits, Owing, Misplaced, FewPortions}
use Rattle.answers.specs.Answers.{Row, row}
use Rattle.lent.specs.Lent.{World}
use Rattle.results.specs.World.{content_at}
use Rattle.item_commands.specs.Items.{item_rows}
use Rattle.form_commands.specs.Forms.{form_rows}
use Rattle.picture_commands.specs.Pictures.{picture_rows}
use Rattle.value_commands.specs.Values.{value_rows}
use Rattle.listing_commands.specs.Listings.{listing_rows}
use Rattle.places.specs.Places.{places_of}

-- ---- 9 and later

-- an item recorded in entry i: [19] "fewer free portions than needed" for the line and its LF. It makes no entry, so [23] is none of its rows. FE has no rows
abbrev pub kept_rows : World → Session → List ℕ → ℕ → Option Item → List Row
kept_rows w s line i (Some it) =
    item_rows (declared_of (content_at w i)) w.directory line it
    (row FewPortions (not (can_grow s.free (entry w.directory i) (length (normal line) + 1))) ∷ [])
kept_rows w s line i None = []

-- while the form of entry i is recorded
abbrev pub record_rows : World → Session → List ℕ → ℕ → Command → List Row
record_rows w s line i c = row Misplaced (not (places_of c).recording) ∷ kept_rows w s line i (held_command c)

-- each group's own rows. Outside recording data elements find nothing declared, and the session's formats are in force
abbrev pub group_rows : World → Session → List ℕ → List ℕ → ℕ → Command → List Row
group_rows w s line more room (item it) = item_rows (outside_forms s.formats) w.directory line it []
group_rows w s line more room End = []
group_rows w s line more room (Page c) = []
group_rows w s line more room (Forms c) = form_rows w s line c
group_rows w s line more room (Pictures c) = picture_rows w s line more c
group_rows w s line more room (Values c) = value_rows w s line c
group_rows w s line more room (Listing c) = listing_rows w line room c
group_rows w s line more room (Clock c) = []

-- otherwise
abbrev pub run_rows : World → Session → List ℕ → List ℕ → ℕ → Command → List Row
run_rows w s line more room c = row Misplaced (not (places_of c).otherwise) ∷ group_rows w s line more room c

-- by whether a form is being recorded
abbrev pub placed_rows : World → Session → List ℕ → List ℕ → ℕ → Command → Option ℕ → List Row
placed_rows w s line more room c (Some i) = record_rows w s line i c
placed_rows w s line more room c None = run_rows w s line more room c

-- [6] "the line has not the written form", [7] "a number, name or prompt outside its limits", each with the place that reading found
abbrev pub fault_answer : Fault → Answer
fault_answer (form p) = Unwritten p
fault_answer (Limit p) = Limits p

-- ---- 6, 7, 8: a line that is read. more are the bytes of a well-formed GM
abbrev pub line_rows : World → Session → List ℕ → List ℕ → ℕ → Result Command Fault → List Row
line_rows w s line more room (Err f) = row (fault_answer f) true ∷ []
line_rows w s line more room (Ok c) = row Owing (ltb 0 s.owed) ∷ placed_rows w s line more room c (recorded w.directory)
