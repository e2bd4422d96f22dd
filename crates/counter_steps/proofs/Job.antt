-- Within a job: counters that last for n labels last for one less after each label, and what was set is set.
-- Assumes nothing.
use mathlib.Core.Path.{◌≡◌, refl, sym, ◌∙◌}
use mathlib.Core.Bool.{Bool, true, false, not, ◌||◌, false≢true}
use Prim.Native.Nat.{ℕ, suc, ◌+◌, ◌-◌, ◌*◌, ◌≤◌, ◌<◌}
use native.Mathlib.Nat.{suc-mul, mul-le-mul_right}
use native.Mathlib.Omega.{arith}
use borrow.Author.Tests.{eqb-true}
use Rattle.ground.proofs.Tests.{and_right}
use Rattle.declarations.specs.declared.Declared.{Declared}
use Rattle.declarations.specs.Declarations.{tenth, width_at, minus_at, step_at, counter_declared}
use Rattle.declarations.proofs.Every.{every-at, every-all}
use Rattle.counters.specs.declared.Counters.{Counters}
use Rattle.counters.specs.Counters.{ten_to, counter_set, counter_value}
use Rattle.counter_steps.specs.Steps.{counts, inside_at, lasts_at, lasts, moved_all, SoundCounters}
use Rattle.counter_steps.proofs.Moves.{inside-nearer, inside_on, set_below, set_on, value_on, set-rests, set_before}

-- ---- what `lasts` says

not-or : (a b : Bool) → a ≡ true → (not a || b) ≡ true → b ≡ true
not-or true b p e = e
not-or false b p e = absurd (false≢true p)

or-not : (a b : Bool) → (a ≡ true → b ≡ true) → (not a || b) ≡ true
or-not true b f = f refl
or-not false b f = refl

module _ (d : Declared) (c : Counters) (n : ℕ) where
  pub lasts-at : lasts d c n ≡ true → (k : ℕ) → k < 10 → counts d c k ≡ true → inside_at d c k (n - 1) ≡ true
  unfolding lasts
  lasts-at h k l p = not-or (counts d c k) (inside_at d c k (n - 1)) p (every-at (lasts_at d c n) 10 0 k h (omega arith) (omega arith))

  lasts-all : ((k : ℕ) → k < 10 → counts d c k ≡ true → inside_at d c k (n - 1) ≡ true) → lasts d c n ≡ true
  unfolding lasts
  lasts-all f = every-all (lasts_at d c n) 10 0 (λ k a b. or-not (counts d c k) (inside_at d c k (n - 1)) (f k (omega arith)))

-- ---- the step law

-- with n labels to come, two or more
module _ (d : Declared) (c : Counters) (s : SoundCounters d c) (n : ℕ) (two : 2 ≤ n) (last : lasts d c n ≡ true) where
  module _ (k : ℕ) (l : k < 10) where
    below : counts d c k ≡ true → counter_value c k < ten_to (width_at d k)
    below p = set_below d c s k l (and_right (counter_declared d k) (counter_set c k) p)

    -- no counter runs out with the next move
    next-inside : counts d c k ≡ true → inside_at d c k 1 ≡ true
    next-inside p =
        inside-nearer (width_at d k) (minus_at d k) (counter_value c k) (below p) (1 * step_at d k) ((n - 1) * step_at d k)
        (mul-le-mul_right (step_at d k) (let b : 1 ≤ n - 1 = omega arith in b)) (lasts-at d c n last k l p)

    pub set-kept : tenth (moved_all d c).set k ≡ tenth c.set k
    set-kept = go (counts d c k) refl
      where
        go : (b : Bool) → counts d c k ≡ b → tenth (moved_all d c).set k ≡ tenth c.set k
        go true p = set_on d c s k l p (next-inside p) ∙ sym (eqb-true (tenth c.set k) 1 (and_right (counter_declared d k) (counter_set c k) p))
        go false p = set-rests d c s k l p

    one-step : (n - 1) * step_at d k ≡ step_at d k + (n - 1 - 1) * step_at d k
    one-step = go (n - 1) (n - 1 - 1) (omega arith)
      where
        go : (a b : ℕ) → a ≡ suc b → a * step_at d k ≡ step_at d k + b * step_at d k
        go a b p = rw (p, suc-mul) (omega arith)

    lasts-next : counts d (moved_all d c) k ≡ true → inside_at d (moved_all d c) k (n - 1 - 1) ≡ true
    lasts-next p =
        let x = set_before d c s k l (and_right (counter_declared d k) (counter_set (moved_all d c) k) p) in
        rw (value_on d c s k l x.0 x.1)
        (inside_on (width_at d k) (minus_at d k) (counter_value c k) (below x.0) (step_at d k) ((n - 1 - 1) * step_at d k)
        (rw (← one-step) (lasts-at d c n last k l x.0)))

  -- the counters of the next label last for one label less
  pub lasts-moved : lasts d (moved_all d c) (n - 1) ≡ true
  lasts-moved = lasts-all d (moved_all d c) (n - 1) (λ k l p. lasts-next k l p)
