-- The session of an image, from its numbers.
use mathlib.Core.Path.{◌≡◌}
use mathlib.Core.List.{List}
use Prim.Native.Nat.{ℕ}
use lib.ListN.{get_or}
use Rattle.counters.specs.declared.Counters.{Counters}
use Rattle.counters.specs.Counters.{counters}
use Rattle.calendar.specs.declared.Clock.{Clock}
use Rattle.formats.specs.declared.Format.{Format}
use Rattle.formats.specs.Formats.{formats_of}
use Rattle.session.specs.Session.{session}
use Rattle.low_first.specs.Low.{number_at}
use Rattle.image.specs.Image.{every_five, image_clock, image_format, session_of}

module _ (b : List ℕ) {width length turn x y active owed drawn free : ℕ} {c : Counters} {k : Clock} {d h : Format} where
  pub session-read : width ≡ number_at 2 b 0 → length ≡ number_at 2 b 2 → turn ≡ get_or b 4 0 → x ≡ number_at 2 b 5 → y ≡ number_at 2 b 7 → active ≡ number_at 2 b 9
      → owed ≡ number_at 2 b 11 → drawn ≡ number_at 2 b 13 → c ≡ counters (every_five 1 10 b 15) (every_five 4 10 b 16) → free ≡ number_at 2 b 65
      → k ≡ image_clock b 67 → d ≡ image_format b 73 → h ≡ image_format b 78
      → session width length turn x y active owed drawn c free k (formats_of d h) ≡ session_of b
  unfolding session_of
  session-read p0 p1 p2 p3 p4 p5 p6 p7 p8 p9 p10 p11 p12 = rw (p0, p1, p2, p3, p4, p5, p6, p7, p8, p9, p10, p11, p12)
