-- A number at a place is the number at the front of what stands there.
use mathlib.Core.Path.{◌≡◌, refl, ap, ◌∙◌}
use mathlib.Core.List.{List}
use Prim.Native.Nat.{ℕ, zero, suc, ◌+◌}
use native.Mathlib.Nat.{add-zero}
use native.Mathlib.Omega.{arith}
use lib.ListN.{drop}
use lib.Seq.{get_or-drop}
use Rattle.low_first.specs.Low.{number_at}

number-drop : (w : ℕ) (file : List ℕ) (a b : ℕ) → number_at w (drop a file) b ≡ number_at w file (a + b)
unfolding number_at
number-drop zero file a b = refl
number-drop (suc w) file a b = let e : a + suc b ≡ suc (a + b) = omega arith in rw (get_or-drop, number-drop w file a (suc b), e)

pub number-front : (w : ℕ) (file : List ℕ) (a : ℕ) → number_at w (drop a file) 0 ≡ number_at w file a
number-front w file a = number-drop w file a 0 ∙ ap (number_at w file) (add-zero a)
