-- The session's image: "The session holds width, length, turn, origin, counters with set or unset, active form, labels owed and drawn", and since paper 02, §6,
-- the number of free portions, and §10, the clock and the formats, in 83 bytes.
-- Assumes nothing.
use Rattle.std.specs.Prelude.{ℕ, zero, suc, ◌+◌, ◌<◌, ◌≡◌, List, [], ◌∷◌, ◌++◌, get_or, length as length'}
use Rattle.low_first.specs.Low.{number_at, bytes_of}
use Rattle.counters.specs.declared.Counters.{Counters}
use Rattle.counters.specs.Counters.{counters}
use Rattle.calendar.specs.declared.Clock.{Clock}
use Rattle.calendar.specs.Clock.{clock}
use Rattle.formats.specs.declared.Format.{Format}
use Rattle.formats.specs.declared.Formats.{Formats}
use Rattle.formats.specs.Formats.{format}
use Rattle.session.specs.declared.Session.{Session}
use Rattle.session.specs.Session.{none, sized, turning, based, with_active, with_labels, counting, roomed, clocked, formatted}

-- ---- ten counters of five bytes: set, value

-- n numbers of w bytes, one every five bytes
unfoldable pub every_five : ℕ → ℕ → List ℕ → ℕ → List ℕ
every_five w zero b at = []
every_five w (suc n) b at = number_at w b at ∷ every_five w n b (5 + at)

-- n counters from counter k on: set and value of each
unfoldable pub counter_bytes : ℕ → ℕ → Counters → List ℕ
counter_bytes zero k c = []
counter_bytes (suc n) k c = get_or c.set k 0 ∷ (bytes_of 4 (get_or c.value k 0) ++ counter_bytes n (suc k) c)

-- ---- the image: width at 0, length at 2, turn at 4 (one byte), origin at 5 and 7, active form at 9, owed at 11, drawn at 13, counters from 15 on,
-- free portions at 65, the clock at 67 (year, month, day, hour, minute, second, a byte each), the date's format at 73, the time's at 78 (field, separator, field,
-- separator, field, a byte each; 0 where none stands)

abbrev pub image_size : ℕ
image_size = 83

abbrev pub word_at : List ℕ → ℕ → ℕ
word_at b at = number_at 2 b at

abbrev pub image_clock : List ℕ → ℕ → Clock
image_clock b at = clock (get_or b at 0) (get_or b (at + 1) 0) (get_or b (at + 2) 0) (get_or b (at + 3) 0) (get_or b (at + 4) 0) (get_or b (at + 5) 0)

abbrev pub image_format : List ℕ → ℕ → Format
image_format b at = format (get_or b at 0) (get_or b (at + 1) 0) (get_or b (at + 2) 0) (get_or b (at + 3) 0) (get_or b (at + 4) 0)

abbrev pub image_formats : List ℕ → ℕ → ℕ → Formats
image_formats b date time = record { date = image_format b date; time = image_format b time }

unfoldable pub session_of : List ℕ → Session
session_of b =
    formatted
    (clocked
    (roomed
    (counting
    (with_labels
    (with_active (based (turning (sized none (word_at b 0) (word_at b 2)) (get_or b 4 0)) (word_at b 5) (word_at b 7)) (word_at b 9))
    (word_at b 11)
    (word_at b 13))
    (counters (every_five 1 10 b 15) (every_five 4 10 b 16)))
    (word_at b 65))
    (image_clock b 67))
    (image_formats b 73 78)

-- the fifteen bytes before the counters
abbrev pub head_of : Session → List ℕ
head_of s =
    bytes_of 2 s.width
    ++ (bytes_of 2 s.length
    ++ (s.turn ∷ []
    ++ (bytes_of 2 s.x ++ (bytes_of 2 s.y ++ (bytes_of 2 s.active ++ (bytes_of 2 s.owed ++ bytes_of 2 s.drawn))))))

abbrev pub clock_bytes : Clock → List ℕ
clock_bytes c = c.year ∷ c.month ∷ c.day ∷ c.hour ∷ c.minute ∷ c.second ∷ []

abbrev pub format_bytes : Format → List ℕ
format_bytes f = f.first ∷ f.mark1 ∷ f.second ∷ f.mark2 ∷ f.third ∷ []

unfoldable pub image_of : Session → List ℕ
image_of s =
    head_of s
    ++ (counter_bytes 10 0 s.counters
    ++ (bytes_of 2 s.free ++ (clock_bytes s.clock ++ (format_bytes s.formats.date ++ format_bytes s.formats.time))))

-- the numbers of a session fit their places, and there are ten counters; every image's session is so (`session-fits`)
pub record Fits (s : Session) : Type 0 where
  pub width : s.width < 65536
  pub length : s.length < 65536
  pub x : s.x < 65536
  pub y : s.y < 65536
  pub active : s.active < 65536
  pub owed : s.owed < 65536
  pub drawn : s.drawn < 65536
  pub ten_set : length' s.counters.set ≡ 10
  pub ten_values : length' s.counters.value ≡ 10
  pub values : (k : ℕ) → get_or s.counters.value k 0 < 4294967296
  pub free : s.free < 65536
