-- What an item draws, on a label's page or on the background.
-- Assumes nothing.
use Rattle.std.specs.Prelude.{ℕ, ◌+◌, min, true, List, [], take, None, Option, Some}
use Rattle.pieces.specs.Elements.{elements}
use Rattle.declarations.specs.declared.Declared.{Declared}
use Rattle.counters.specs.declared.Counters.{Counters}
use Rattle.calendar.specs.declared.Clock.{Clock}
use Rattle.pieces.specs.Data.{assembled, values_in}
use Rattle.finding.specs.Find.{titled_at}
use Rattle.contents.specs.Content.{content}
use Rattle.dots.specs.declared.Ink.TheVariants.{Black}
use Rattle.dots.specs.Dots.{drawn, cut, box}
use Rattle.frames.specs.Frame.{frame}
use Rattle.slanted_lines.specs.Slanted.{slanted}
use Rattle.picture.specs.Shape.{pictured}
use Rattle.text.specs.Text.{text_drawn}
use Rattle.lined.specs.Lined.{bars_with}
use Rattle.grammar.specs.declared.Item.{Item}
use Rattle.grammar.specs.declared.Item.TheVariants.{Origin, Variable, Counter, Text, Bars, Box, Frame, Slant, Picture, Format}
use Rattle.parts.specs.Names.{packed_of}

-- what a label, or a command outside a form, is drawn with
pub record Setting : Type 0 where
  pub font : List ℕ
  pub store : List ℕ
  pub links : List ℕ
  pub directory : List ℕ
  pub values : List ℕ
  pub counters : Counters
  pub clock : Clock
  pub width : ℕ
  pub length : ℕ

abbrev pub setting : List ℕ → List ℕ → List ℕ → List ℕ → List ℕ → Counters → Clock → ℕ → ℕ → Setting
setting f s l d v c t w n = record { font = f; store = s; links = l; directory = d; values = v; counters = c; clock = t; width = w; length = n }

-- the bytes that data from a place on shows, at most 128
unfoldable pub shown : Setting → Declared → List ℕ → ℕ → List ℕ
shown g d line at = take 128 (assembled line d (values_in g.values g.counters g.clock) (elements line at))

-- the bytes of an entry that was looked for; none, where it was not found
abbrev pub bytes_at : List ℕ → List ℕ → List ℕ → Option ℕ → List ℕ
bytes_at store links directory (Some i) = content store links directory i
bytes_at store links directory None = []

-- the bytes of the picture of a name; none, where it is not stored
unfoldable pub picture_bytes : Setting → List ℕ → List ℕ
picture_bytes g name = bytes_at g.store g.links g.directory (titled_at g.directory true name)

-- a sum of origin and coordinate, or of coordinate and size: "Drawing is cut at width and length", and no page reaches 4,294,967,295 dots, so that a
-- greater sum is that
unfoldable pub far : ℕ → ℕ → ℕ
far a b = min (a + b) 4294967295

-- what an item draws from the origin x, y, which "is added to coordinates after it"
unfoldable pub draws_item : Setting → Declared → ℕ → ℕ → List ℕ → Item → List ℕ → List ℕ
draws_item g d x y line (Origin o) page = page
draws_item g d x y line (Variable v) page = page
draws_item g d x y line (Counter c) page = page
draws_item g d x y line (Text t) page =
    text_drawn g.width g.length (far x t.x) (far y t.y) t.r t.h t.v t.reverse g.font (shown g d line t.at) page
draws_item g d x y line (Bars b) page =
    bars_with g.width g.length (far x b.x) (far y b.y) b.r b.kind b.e b.f b.g b.under g.font (shown g d line b.at) page
draws_item g d x y line (Box r) page =
    drawn r.ink (cut g.width g.length (box (far x r.a) (far y r.b) (far (far x r.a) r.c) (far (far y r.b) r.d))) page
draws_item g d x y line (Frame f) page =
    drawn Black (cut g.width g.length (frame (far x f.a) (far y f.b) f.c (far x f.d) (far y f.e))) page
draws_item g d x y line (Slant l) page =
    drawn l.ink (cut g.width g.length (slanted (far x l.a) (far y l.b) l.c (far x l.d) (far y l.e))) page
draws_item g d x y line (Format f) page = page
draws_item g d x y line (Picture p) page =
    drawn Black (cut g.width g.length (pictured (picture_bytes g (packed_of line p.at p.length)) (far x p.a) (far y p.b))) page
