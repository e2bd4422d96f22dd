-- Paper 01's proof case 3 and a symbol of the standard, computed.
-- Assumes nothing.
use Rattle.std.specs.Prelude.{◌≡◌, refl, [], ◌∷◌}
use Rattle.code128.specs.Widths.{digits, each, sum}
use Rattle.code128.specs.Code128.{rows128, six, weighed, check128, elements128}

-- (3) type 1 `A`, which is start B and 33: check 34, 46 modules
case-3-check : check128 (104 ∷ 33 ∷ []) ≡ 34
unfolding check128 weighed
case-3-check = refl

case-3-modules : sum (elements128 (104 ∷ 33 ∷ [])) ≡ 46
unfolding sum elements128 each six digits check128 weighed rows128
case-3-modules = refl

-- each symbol counts by its place
case-places : check128 (104 ∷ 33 ∷ 34 ∷ []) ≡ 102
unfolding check128 weighed
case-places = refl

-- a change of set counts like data: `AIM1234`
case-change : check128 (104 ∷ 33 ∷ 41 ∷ 45 ∷ 99 ∷ 12 ∷ 34 ∷ []) ≡ 87
unfolding check128 weighed
case-change = refl
