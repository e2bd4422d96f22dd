-- Slanted lines as they are read, kept and drawn, computed.
-- Assumes nothing.
use mathlib.Core.Path.{◌≡◌, refl}
use mathlib.Core.Bool.{Bool, true}
use mathlib.Core.List.{[], ◌∷◌}
use lib.ListN.{replicate}
use Rattle.kinds.specs.Text.{bytes}
use Rattle.dots.specs.Dots.{redrawn, drawn}
use Rattle.slanted_lines.specs.Slanted.{gap, squared, cross, near, in_limits, slanted}
use Rattle.dots.specs.declared.Ink.TheVariants.{Black, White, Inverted}
use Rattle.grammar.specs.declared.Slant.{Slant as SlantLine}
use Rattle.grammar.specs.declared.Item.TheVariants.{Slant}
use Rattle.grammar.specs.declared.Command.TheVariants.{Item as item}
use Rattle.normal.specs.Written.{normal}
use Rattle.recording.specs.Judged.{declaration}
use Rattle.places.specs.Places.{places_of}
use Rattle.answers.specs.declared.Answer.TheVariants.{Taken}
use Rattle.session.specs.Session.{fresh}
use Rattle.results.specs.World.{with_background}
use Rattle.calls.specs.Outcomes.{after, outcome}
use Rattle.calls.specs.Station.{commanded}
use Rattle.cases.specs.Calls.{font, output}
use Rattle.cases.specs.Slants.{read_behind, expected, unwritten, read_as, pointed, page, draws, firsts}
use Rattle.cases.proofs.Opened.{computed}
use Rattle.cases.proofs.Laws.{answered}
use Rattle.cases.proofs.Sample.{legal-font}
use Rattle.cases.proofs.Full.{small, lent-small, sound-small}

-- ---- read

black-limits : read_behind (bytes "LS") ≡ expected Black 2
unfolding computed
black-limits = refl

inverting-limits : read_behind (bytes "LSE") ≡ expected Inverted 3
unfolding computed
inverting-limits = refl

white-limits : read_behind (bytes "LSW") ≡ expected White 3
unfolding computed
white-limits = refl

not_written : read_as unwritten ≡ pointed unwritten
unfolding computed
not_written = refl

-- ---- kept: in a form and outside it a slanted line has a place

anywhere : (l : SlantLine) → places_of (item (Slant l)) ≡ record { recording = true; otherwise = true }
unfolding declaration
anywhere l = refl

in-normal-form :
    normal (bytes "LS007,00,01,0,9") ∷ normal (bytes "LSE2047,4095,080,0,0") ∷ normal (bytes "LSW007,00,01,0,9") ∷ []
    ≡ bytes "LS7,0,1,0,9" ∷ bytes "LSE2047,4095,80,0,0" ∷ bytes "LSW7,0,1,0,9" ∷ []
unfolding computed
in-normal-form = refl

-- ---- drawn

-- what is drawn is computed too
unfoldable drawing : Bool
unfolding computed drawn redrawn slanted in_limits near cross squared gap
drawing = true

-- from (2, 1) to (5, 3)
--     ........
--     ..X.....
--     ...XX...
--     .....X..
from-origin : firsts (draws 608 4 (bytes "R2,1\nLS0,0,1,3,2\n") (page 0)) ≡ 0 ∷ 32 ∷ 24 ∷ 4 ∷ []
unfolding drawing
from-origin = refl

-- cut at a width of 4 and a length of 3
cut_off : firsts (draws 4 3 (bytes "R2,1\nLS0,0,1,3,2\n") (page 0)) ≡ 0 ∷ 32 ∷ 16 ∷ 0 ∷ []
unfolding drawing
cut_off = refl

-- white on black, and over black dots 4 to 7 each dot turned over once
whitened : firsts (draws 608 4 (bytes "R2,1\nLSW0,0,1,3,2\n") (page 255)) ≡ 255 ∷ 223 ∷ 231 ∷ 251 ∷ []
unfolding drawing
whitened = refl

turned-over : firsts (draws 608 4 (bytes "R2,1\nLSE0,0,1,3,2\n") (page 15)) ≡ 15 ∷ 47 ∷ 23 ∷ 11 ∷ []
unfolding drawing
turned-over = refl

-- the same twice gives back the page
turned-back : draws 608 4 (bytes "R2,1\nLSE0,0,1,3,2\nLSE0,0,1,3,2\n") (page 15) ≡ page 15
unfolding drawing
turned-back = refl

-- a call on a station of one row
call-slant : commanded (fresh 1 1) font small output (bytes "LS1,0,1,4,0\n") ≡ after (outcome Taken (fresh 1 1) 12 0) (with_background small (120 ∷ replicate 75 0)) output
unfolding drawing declaration small
call-slant = answered (fresh 1 1) small (bytes "LS1,0,1,4,0\n") Taken lent-small legal-font sound-small refl
