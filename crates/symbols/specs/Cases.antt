-- Paper 01's proof case 2, computed.
-- Assumes nothing.
use Rattle.std.specs.Prelude.{◌≡◌, refl}
use Rattle.kinds.specs.Text.{bytes}
use Rattle.symbols.specs.Elements.{weights, check_digit}

-- (2) E30 `123456789012`: check digit 8
case-2 : check_digit (bytes "123456789012") ≡ 8
unfolding check_digit weights
case-2 = refl
