-- A chain of tests: one that fails decides, one that passes leaves it to the rest.
use mathlib.Core.Path.{◌≡◌, sym, ◌∙◌}
use mathlib.Core.Bool.{Bool, true, false, ◌&&◌}

pub stop : (a b r : Bool) → r ≡ a → r ≡ false → false ≡ (a && b)
stop a b r e t = rw (sym e ∙ t)

pub skip : (a b r x : Bool) → r ≡ a → r ≡ true → x ≡ b → x ≡ (a && b)
skip a b r x e t h = h ∙ rw (sym e ∙ t)
