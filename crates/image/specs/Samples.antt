-- What the definitions say of two images, computed.
-- Assumes nothing.
use Rattle.std.specs.Prelude.{◌≡◌, refl, [], ◌∷◌, ◌++◌, replicate}
use Rattle.counters.specs.Counters.{counters}
use Rattle.calendar.specs.Clock.{fresh as midnight}
use Rattle.formats.specs.Formats.{example}
use Rattle.session.specs.Session.{fresh, counting, none}
use Rattle.low_first.specs.Low.{number_at, bytes_of}
use Rattle.image.specs.Image.{every_five, counter_bytes, session_of, image_of}

-- a station opened with 10 rows and 300 portions: width 608, no form active, 300 = 44 + 256 * 1 portions free, 1 January 2000 at midnight, `dd-me-y4` and `h:m:s`
opened :
    image_of (fresh 10 300)
    ≡ (96 ∷ 2 ∷ 10 ∷ 0 ∷ 0 ∷ 0 ∷ 0 ∷ 0 ∷ 0 ∷ 255 ∷ 255 ∷ [])
    ++ (replicate 54 0 ++ (44 ∷ 1 ∷ 0 ∷ 1 ∷ 1 ∷ 0 ∷ 0 ∷ 0 ∷ 5 ∷ 45 ∷ 3 ∷ 45 ∷ 2 ∷ 1 ∷ 58 ∷ 2 ∷ 58 ∷ 3 ∷ []))
unfolding bytes_of counter_bytes image_of midnight example
opened = refl

-- counter 1, set to 258, stands from byte 20 on
second :
    session_of (replicate 20 0 ++ ((1 ∷ 2 ∷ 1 ∷ 0 ∷ 0 ∷ []) ++ replicate 58 0))
    ≡ counting none (counters (0 ∷ 1 ∷ replicate 8 0) (0 ∷ 258 ∷ replicate 8 0))
unfolding number_at every_five session_of
second = refl
