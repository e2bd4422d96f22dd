-- The paper's own counter, the widest, and digits, computed.
-- Assumes nothing.
use Prim.Native.Char.{code}
use Rattle.std.specs.Prelude.{◌≡◌, refl, false, [], ◌∷◌, Err}
use Rattle.declarations.specs.declared.Declared.{Declared}
use Rattle.declarations.specs.declared.Refused.TheVariants.{Undeclared, Unfit}
use Rattle.declarations.specs.Declarations.{nothing, with_counter}
use Rattle.counters.specs.Counters.{ten_to, digits, none_set, counter_entered}

-- C0 of two digits, step +1
declared : Declared
declared = with_counter nothing 0 2 false 1

-- "0 to 10^w-1, else 17"; an undeclared counter is 13
case-17 : counter_entered declared none_set 0 100 ≡ Err Unfit
unfolding declared with_counter nothing counter_entered ten_to
case-17 = refl

case-13 : counter_entered declared none_set 1 5 ≡ Err Undeclared
unfolding declared with_counter nothing counter_entered ten_to
case-13 = refl

-- "0 to 10^w-1" of the widest counter
case-widest : ten_to 9 ≡ 1000000000
unfolding ten_to
case-widest = refl

-- "A counter is its w digits", zeros in front
case-digits : digits 5 407 ≡ code "0" ∷ code "0" ∷ code "4" ∷ code "0" ∷ code "7" ∷ []
unfolding digits
case-digits = refl
