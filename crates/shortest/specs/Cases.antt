-- Paper 02, §9: writings with as many symbols, and rows of digits about letters, computed.
-- Assumes nothing.
use Rattle.std.specs.Prelude.{◌≡◌, refl, [], ◌∷◌}
use Rattle.kinds.specs.Text.{bytes}
use Rattle.kinds.specs.Bytes.{between}
use Rattle.kinds.specs.Fit.{in_class, fit_length, fit}
use Rattle.shortest.specs.Found.{leaves_b, step, best, started, our_writing}

-- `A12` stays in set B: 17 before 99
case-a12 : our_writing (bytes "A12") ≡ 104 ∷ 33 ∷ 17 ∷ 18 ∷ []
unfolding our_writing started best step leaves_b fit fit_length in_class between
case-a12 = refl

-- two digits are one pair, and three start in set B: 17 before 99, and 104 before 105
case-12 : our_writing (bytes "12") ≡ 105 ∷ 12 ∷ []
unfolding our_writing started best step leaves_b fit fit_length in_class between
case-12 = refl

case-123 : our_writing (bytes "123") ≡ 104 ∷ 17 ∷ 18 ∷ 19 ∷ []
unfolding our_writing started best step leaves_b fit fit_length in_class between
case-123 = refl

-- an odd digit more than two pairs goes first where nothing follows, last where a letter does
case-1234 : our_writing (bytes "1234") ≡ 105 ∷ 12 ∷ 34 ∷ []
unfolding our_writing started best step leaves_b fit fit_length in_class between
case-1234 = refl

case-12345 : our_writing (bytes "12345") ≡ 104 ∷ 17 ∷ 99 ∷ 23 ∷ 45 ∷ []
unfolding our_writing started best step leaves_b fit fit_length in_class between
case-12345 = refl

case-12345a : our_writing (bytes "12345A") ≡ 105 ∷ 12 ∷ 34 ∷ 100 ∷ 21 ∷ 33 ∷ []
unfolding our_writing started best step leaves_b fit fit_length in_class between
case-12345a = refl

-- behind a letter four digits are worth the change if nothing follows, between letters six are
case-a1234 : our_writing (bytes "A1234") ≡ 104 ∷ 33 ∷ 99 ∷ 12 ∷ 34 ∷ []
unfolding our_writing started best step leaves_b fit fit_length in_class between
case-a1234 = refl

case-a1234b : our_writing (bytes "A1234B") ≡ 104 ∷ 33 ∷ 17 ∷ 18 ∷ 19 ∷ 20 ∷ 34 ∷ []
unfolding our_writing started best step leaves_b fit fit_length in_class between
case-a1234b = refl

case-a123456b : our_writing (bytes "A123456B") ≡ 104 ∷ 33 ∷ 99 ∷ 12 ∷ 34 ∷ 56 ∷ 100 ∷ 34 ∷ []
unfolding our_writing started best step leaves_b fit fit_length in_class between
case-a123456b = refl

-- both changes in one writing
case-1234a5678 : our_writing (bytes "1234A5678") ≡ 105 ∷ 12 ∷ 34 ∷ 100 ∷ 33 ∷ 99 ∷ 56 ∷ 78 ∷ []
unfolding our_writing started best step leaves_b fit fit_length in_class between
case-1234a5678 = refl

-- the standard's example of a check symbol: start B, `AIM`, the change to C, two pairs
case-standard : our_writing (bytes "AIM1234") ≡ 104 ∷ 33 ∷ 41 ∷ 45 ∷ 99 ∷ 12 ∷ 34 ∷ []
unfolding our_writing started best step leaves_b fit fit_length in_class between
case-standard = refl
