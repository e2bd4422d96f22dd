-- FI, GI, FP: their rows of the table, and what they write. They change nothing else.
-- Assumes nothing.
use Rattle.std.specs.Prelude.{ℕ, Bool, false, List, [], ◌∷◌, length, ltb, None, Option, Some}
use Rattle.grammar.specs.declared.Named.{Named}
use Rattle.grammar.specs.declared.ListingCommand.{ListingCommand}
use Rattle.grammar.specs.declared.ListingCommand.TheVariants.{Forms, Pictures, Form}
use Rattle.listing.specs.Listing.{listing}
use Rattle.session.specs.declared.Session.{Session}
use Rattle.answers.specs.declared.Answer.TheVariants.{Missing, Overlong}
use Rattle.answers.specs.Answers.{Row, row, answer_of}
use Rattle.lent.specs.Lent.{World}
use Rattle.results.specs.World.{state, content_at}
use Rattle.results.specs.Result.{Ran, ran_by}
use Rattle.results.specs.Named.{named, not_found}

-- the bytes of the form that FP names
abbrev pub printed_at : World → Option ℕ → List ℕ
printed_at w (Some i) = content_at w i
printed_at w None = []

abbrev pub printed : World → List ℕ → Named → List ℕ
printed w line n = printed_at w (named w false line n)

-- [20] "the listing exceeds the output"
abbrev pub exceeds : List ℕ → ℕ → Bool
exceeds bytes room = ltb room (length bytes)

-- [11] "name not found (.. FP ..)", [20]
abbrev pub listing_rows : World → List ℕ → ℕ → ListingCommand → List Row
listing_rows w line room Forms = row Overlong (exceeds (listing w.directory 1) room) ∷ []
listing_rows w line room Pictures = row Overlong (exceeds (listing w.directory 2) room) ∷ []
listing_rows w line room (Form n) = row Missing (not_found w false line n) ∷ row Overlong (exceeds (printed w line n) room) ∷ []

-- what is written
abbrev pub listed_by : World → List ℕ → ListingCommand → List ℕ
listed_by w line Forms = listing w.directory 1
listed_by w line Pictures = listing w.directory 2
listed_by w line (Form n) = printed w line n

-- what such a command leaves, of an output o
abbrev pub listing_by : World → Session → List ℕ → List ℕ → ListingCommand → Ran
listing_by w s line o c = ran_by (answer_of (listing_rows w line (length o) c)) s w o (state s w) (listed_by w line c)
