-- Counters near the end of their range, computed.
-- Assumes nothing.
use Rattle.std.specs.Prelude.{ℕ, ◌≡◌, refl, true, false}
use Rattle.declarations.specs.declared.Declared.{Declared}
use Rattle.declarations.specs.Declarations.{nothing, with_counter}
use Rattle.counters.specs.declared.Counters.{Counters}
use Rattle.counters.specs.Counters.{ten_to, none_set, counter_value, counter_entered, counters_after}
use Rattle.counter_steps.specs.Steps.{onward, inside, lasts, stepped_at, moved_at, moved_all, moved_times}

-- counter 4 of a form, set to v
at : Declared → ℕ → Counters
at d v = counters_after none_set (counter_entered d none_set 4 v)

-- "A three-digit counter passed 999": at 999 it has a number for one label, at 997 for three, and two labels on it stands at 999
three : Declared
three = with_counter nothing 4 3 false 1

case-999 : lasts three (at three 999) 1 ≡ true
unfolding three at with_counter nothing none_set counter_entered ten_to onward inside lasts
case-999 = refl

case-1000 : lasts three (at three 999) 2 ≡ false
unfolding three at with_counter nothing none_set counter_entered ten_to onward inside lasts
case-1000 = refl

case-997 : lasts three (at three 997) 3 ≡ true
unfolding three at with_counter nothing none_set counter_entered ten_to onward inside lasts
case-997 = refl

case-moved : moved_times three (at three 997) 2 ≡ at three 999
unfolding three at with_counter nothing none_set counter_entered ten_to onward inside stepped_at moved_at moved_all
case-moved = refl

-- "If the move after the last label leaves that range, the counter becomes unset"
case-unset : moved_all three (at three 999) ≡ none_set
unfolding three at with_counter nothing none_set counter_entered ten_to onward inside stepped_at moved_at moved_all
case-unset = refl

-- a step back: 5 by 2 gives 5, 3, 1 and is then unset; from 6 it reaches 0
back : Declared
back = with_counter nothing 4 3 true 2

case-back : lasts back (at back 5) 3 ≡ true
unfolding back at with_counter nothing none_set counter_entered ten_to onward inside lasts
case-back = refl

case-back-out : lasts back (at back 5) 4 ≡ false
unfolding back at with_counter nothing none_set counter_entered ten_to onward inside lasts
case-back-out = refl

case-back-moved : counter_value (moved_times back (at back 5) 2) 4 ≡ 1
unfolding back at with_counter nothing none_set counter_entered ten_to onward inside stepped_at moved_at moved_all
case-back-moved = refl

case-back-unset : moved_times back (at back 5) 3 ≡ none_set
unfolding back at with_counter nothing none_set counter_entered ten_to onward inside stepped_at moved_at moved_all
case-back-unset = refl

case-back-zero : lasts back (at back 6) 4 ≡ true
unfolding back at with_counter nothing none_set counter_entered ten_to onward inside lasts
case-back-zero = refl

-- a counter that stands still lasts for every job
still : Declared
still = with_counter nothing 4 3 false 0

case-still : lasts still (at still 999) 65535 ≡ true
unfolding still at with_counter nothing none_set counter_entered ten_to onward inside lasts
case-still = refl

-- nine digits, the widest step and the most labels: 1 and 65534 steps of 99999 are above 10^9-1, and 10,000 labels reach 999,890,002
nine : Declared
nine = with_counter nothing 4 9 false 99999

case-nine : lasts nine (at nine 1) 65535 ≡ false
unfolding nine at with_counter nothing none_set counter_entered ten_to onward inside lasts
case-nine = refl

case-nine-on : lasts nine (at nine 1) 10000 ≡ true
unfolding nine at with_counter nothing none_set counter_entered ten_to onward inside lasts
case-nine-on = refl

-- two counters: one that runs out is enough, and the move unsets that one alone
both : Declared
both = with_counter (with_counter nothing 4 1 false 1) 5 2 false 5

nines : Counters
nines = counters_after (at both 9) (counter_entered both (at both 9) 5 9)

case-both : lasts both nines 2 ≡ false
unfolding both nines at with_counter nothing none_set counter_entered ten_to onward inside lasts
case-both = refl

case-other : moved_all both nines ≡ counters_after none_set (counter_entered both none_set 5 14)
unfolding both nines at with_counter nothing none_set counter_entered ten_to onward inside stepped_at moved_at moved_all
case-other = refl

-- "an unset one is 18"
case-18 : lasts three none_set 65535 ≡ true
unfolding three with_counter nothing none_set ten_to onward inside lasts
case-18 = refl
