-- Padding and what may be entered, computed.
-- Assumes nothing.
use Prim.Native.Char.{code}
use Rattle.std.specs.Prelude.{◌≡◌, refl, Bool, true, false, [], ◌∷◌}
use Rattle.kinds.specs.Bytes.{between}
use Rattle.kinds.specs.Text.{bytes}
use Rattle.padding.specs.Padding.{enters, padded}

-- L, R, C ("puts the smaller half left"), N and Z
case-left : padded (code "L") 5 (bytes "AB") ≡ bytes "AB   "
unfolding padded
case-left = refl

case-right : padded (code "R") 5 (bytes "AB") ≡ bytes "   AB"
unfolding padded
case-right = refl

case-centre : padded (code "C") 5 (bytes "AB") ≡ bytes " AB  "
unfolding padded
case-centre = refl

case-none : padded (code "N") 5 (bytes "AB") ≡ bytes "AB"
unfolding padded
case-none = refl

case-zeros : padded (code "Z") 5 (bytes "42") ≡ bytes "00042"
unfolding padded
case-zeros = refl

-- Z takes 1 to m digits, and nothing else; the others 0 to m bytes without a quote
case-enters :
    enters (code "Z") 2 (bytes "07")
    ∷ enters (code "Z") 2 (bytes "")
    ∷ enters (code "Z") 2 (bytes "7A")
    ∷ enters (code "Z") 2 (bytes "007")
    ∷ enters (code "L") 2 (bytes "")
    ∷ enters (code "L") 2 (bytes "7A")
    ∷ enters (code "L") 2 (bytes "ABC")
    ∷ enters (code "L") 2 (bytes "\"")
    ∷ []
    ≡ true ∷ false ∷ false ∷ false ∷ true ∷ true ∷ false ∷ false ∷ []
unfolding enters between
case-enters = refl
