-- Over any number of labels: while a counter is set, each label has its next number, and no number of it comes twice.
-- Assumes nothing.
use mathlib.Core.Path.{◌≡◌, sym, ap, ◌∙◌, subst}
use mathlib.Core.Bool.{Bool, true, false}
use mathlib.Core.Logic.{◌⊎◌, inl, inr, ⊎_elim}
use Prim.Native.Nat.{ℕ, zero, suc, ◌-◌, ◌*◌, ◌≤◌, ◌<◌}
use native.Mathlib.Nat.{one-mul, zero-mul, suc-mul, mul-le-mul_right}
use native.Mathlib.Omega.{arith}
use native.Mathlib.Decide.{dec_le}
use lib.Dec.{eqb}
use borrow.Author.Tests.{ltb-true}
use Rattle.ground.proofs.Tests.{and_right, either}
use Rattle.declarations.specs.declared.Declared.{Declared}
use Rattle.declarations.specs.Declarations.{width_at, minus_at, step_at, counter_declared}
use Rattle.declarations.proofs.Tenths.{tenth-below}
use Rattle.counters.specs.declared.Counters.{Counters}
use Rattle.counters.specs.Counters.{ten_to, digits, counter_set, counter_value}
use Rattle.counters.proofs.Tens.{ten-is}
use Rattle.counters.proofs.Digits.{digits-one}
use Rattle.counter_steps.specs.Steps.{onward, inside, inside_at, lasts, moved_all, moved_times, SoundCounters, beyond}
use Rattle.counter_steps.proofs.Moves.{onward-none, onward-on, inside-here, inside_both, onward-beyond, beyond-on, beyond-differ, set_below, value_on, set_before, moved-sound}
use Rattle.counter_steps.proofs.Job.{set-kept, lasts-moved}

-- no two numbers of a counter that lie one beyond the other have the same digits
pub beyond-digits :
    (d : Declared) (k a b : ℕ) → a < ten_to (width_at d k) → b < ten_to (width_at d k) → beyond (minus_at d k) a b ≡ true →
    digits (width_at d k) a ≡ digits (width_at d k) b → ⊥
beyond-digits d k a b p q e same =
    let w : width_at d k ≤ 9 = omega arith in
    beyond-differ (minus_at d k) a b e (digits-one (width_at d k) a b (rw (← ten-is (width_at d k) w) p) (rw (← ten-is (width_at d k) w) q) same)

-- after a label the counter is unset, or beyond every number that it stood at or beyond before
pub moved-ahead :
    (d : Declared) (c : Counters) → SoundCounters d c → (k : ℕ) → k < 10 → 0 < step_at d k → (v : ℕ) →
    (v ≡ counter_value c k) ⊎ (beyond (minus_at d k) v (counter_value c k) ≡ true) →
    (counter_set (moved_all d c) k ≡ false) ⊎ (beyond (minus_at d k) v (counter_value (moved_all d c) k) ≡ true)
moved-ahead d c s k l step v was = ⊎_elim
    (λ (e : counter_set (moved_all d c) k ≡ true). inr (still e))
    (λ (e : counter_set (moved_all d c) k ≡ false). inl e)
    (either (counter_set (moved_all d c) k))
  where
    next : inside_at d c k 1 ≡ true → beyond (minus_at d k) (counter_value c k) (onward (minus_at d k) (step_at d k) (counter_value c k)) ≡ true
    next e =
        subst (λ (n : ℕ). beyond (minus_at d k) n (onward (minus_at d k) (step_at d k) (counter_value c k)) ≡ true) (onward-none (minus_at d k) (counter_value c k))
        (onward-beyond (width_at d k) (minus_at d k) 0 (step_at d k) (counter_value c k) step (rw one-mul at e))

    still : counter_set (moved_all d c) k ≡ true → beyond (minus_at d k) v (counter_value (moved_all d c) k) ≡ true
    still e =
        let x = set_before d c s k l e in
        rw (value_on d c s k l x.0 x.1) (⊎_elim
        (λ (q : v ≡ counter_value c k). rw q (next x.1))
        (λ (b : beyond (minus_at d k) v (counter_value c k) ≡ true). beyond-on (minus_at d k) v (counter_value c k) (onward (minus_at d k) (step_at d k) (counter_value c k)) b (next x.1))
        was)

module _ (d : Declared) (c : Counters) (s : SoundCounters d c) where
  times-sound : (i : ℕ) → SoundCounters d (moved_times d c i)
  times-sound zero = s
  times-sound (suc i) = moved-sound d (moved_times d c i) (times-sound i)

  -- before label i of n the counters last for the labels left
  times-last : (n : ℕ) → lasts d c n ≡ true → (i : ℕ) → i < n → lasts d (moved_times d c i) (n - i) ≡ true
  times-last n e zero h = let z : n - 0 ≡ n = omega arith in rw z e
  times-last n e (suc i) h =
      let z : n - i - 1 ≡ n - suc i = omega arith in
      rw (← z) (lasts-moved d (moved_times d c i) (times-sound i) (n - i) (omega arith) (times-last n e i (omega arith)))

  module _ (k : ℕ) (declared : counter_declared d k ≡ true) where
    ten-below : k < 10
    ten-below = tenth-below d.widths k (omega (arith, ltb-true 0 (width_at d k) declared))

    abbrev value_times : ℕ → ℕ
    value_times i = counter_value (moved_times d c i) k

    abbrev set_times : ℕ → Bool
    set_times i = counter_set (moved_times d c i) k

    -- once unset, it stays so
    pub set-earlier : (i j : ℕ) → i ≤ j → set_times j ≡ true → set_times i ≡ true
    set-earlier i zero h e = let z : i ≡ 0 = omega arith in rw z e
    set-earlier i (suc j) h e = elim (dec_le i j) [
      | yes m ↦ set-earlier i j m
          (and_right (counter_declared d k) (set_times j) (set_before d (moved_times d c j) (times-sound j) k ten-below e).0)
      | no m ↦ let z : i ≡ suc j = omega arith in rw z e
    ]

    -- in a job of n labels it is set on each
    pub lasts-set : (n : ℕ) → lasts d c n ≡ true → counter_set c k ≡ true → (i : ℕ) → i < n → set_times i ≡ true
    lasts-set n e p zero h = p
    lasts-set n e p (suc i) h =
        ap (λ (x : ℕ). eqb x 1) (set-kept d (moved_times d c i) (times-sound i) (n - i) (omega arith) (times-last n e i (omega arith)) k ten-below)
        ∙ lasts-set n e p i (omega arith)

    -- while it is set it has gone i steps, none of them out of 0 to 10^w-1
    times-went : (i : ℕ) → set_times i ≡ true → (inside_at d c k i ≡ true) × (value_times i ≡ onward (minus_at d k) (i * step_at d k) (counter_value c k))
    times-went zero e = (
      rw zero-mul (inside-here (width_at d k) (minus_at d k) (counter_value c k) (set_below d c s k ten-below e)),
      rw zero-mul (sym (onward-none (minus_at d k) (counter_value c k))),
    )
    times-went (suc i) e =
        let m = moved_times d c i in
        let x = set_before d m (times-sound i) k ten-below e in
        let was = and_right (counter_declared d k) (counter_set m k) x.0 in
        let w = times-went i was in
        let first = set_below d c s k ten-below (set-earlier 0 i (omega arith) was) in
        let one : inside (width_at d k) (minus_at d k) (step_at d k) (counter_value m k) ≡ true = rw one-mul at x.1 in (
          rw suc-mul (inside_both (width_at d k) (minus_at d k) (counter_value c k) first (i * step_at d k) (step_at d k) w.0 (rw w.1 at one)),
          value_on d m (times-sound i) k ten-below x.0 x.1
              ∙ (ap (onward (minus_at d k) (step_at d k)) w.1 ∙ (onward-on (minus_at d k) (i * step_at d k) (step_at d k) (counter_value c k) ∙ rw suc-mul)),
        )

    -- its value is the first and i steps
    pub times-value : (i : ℕ) → set_times i ≡ true → value_times i ≡ onward (minus_at d k) (i * step_at d k) (counter_value c k)
    times-value i e = (times-went i e).1

    -- on label i of n: value plus i steps
    pub lasts-value : (n : ℕ) → lasts d c n ≡ true → counter_set c k ≡ true → (i : ℕ) → i < n → value_times i ≡ onward (minus_at d k) (i * step_at d k) (counter_value c k)
    lasts-value n e p i h = times-value i (lasts-set n e p i h)

    module _ (step : 0 < step_at d k) where
      -- as long as the counter is set, its values go up, or down
      times-beyond : (i j : ℕ) → i < j → set_times j ≡ true → beyond (minus_at d k) (value_times i) (value_times j) ≡ true
      times-beyond i j h e =
          let more : suc i * step_at d k ≤ j * step_at d k = mul-le-mul_right (step_at d k) (let b : suc i ≤ j = omega arith in b) in
          rw (times-value i (set-earlier i j (omega arith) e), times-value j e)
          (onward-beyond (width_at d k) (minus_at d k) (i * step_at d k) (j * step_at d k) (counter_value c k) (omega (arith, suc-mul i (step_at d k))) (times-went j e).0)

      -- so no number is shown twice
      times-differ : (i j : ℕ) → i < j → set_times j ≡ true → digits (width_at d k) (value_times i) ≡ digits (width_at d k) (value_times j) → ⊥
      times-differ i j h e =
          let was = set-earlier i j (omega arith) e in
          beyond-digits d k (value_times i) (value_times j) (set_below d (moved_times d c i) (times-sound i) k ten-below was)
          (set_below d (moved_times d c j) (times-sound j) k ten-below e) (times-beyond i j h e)

      -- two labels of a job show different digits
      pub digits-differ :
          (n : ℕ) → lasts d c n ≡ true → counter_set c k ≡ true → (i j : ℕ) → i < n → j < n → (i ≡ j → ⊥) →
          digits (width_at d k) (value_times i) ≡ digits (width_at d k) (value_times j) → ⊥
      digits-differ n e p i j hi hj ne q = elim (dec_le j i) [
        | yes l ↦ times-differ j i (apart l) (lasts-set n e p i hi) (sym q)
        | no l ↦ times-differ i j (omega arith) (lasts-set n e p j hj) q
      ]
        where
          apart : j ≤ i → j < i
          apart l = elim (dec_le i j) [
            | yes m ↦ absurd (ne (omega arith))
            | no m ↦ omega arith
          ]
