-- The values' part of sound: it holds of unset values, and entering, unsetting and moving keep it.
use mathlib.Core.Path.{◌≡◌}
use mathlib.Core.Bool.{true}
use mathlib.Core.List.{List}
use Prim.Native.Nat.{ℕ, ◌≤◌, ◌<◌}
use native.Mathlib.Omega.{arith}
use lib.ListN.{length}
use Rattle.ground.proofs.Tests.{and_left, and_right, and_both}
use Rattle.declarations.specs.declared.Declared.{Declared}
use Rattle.declarations.specs.Declarations.{tenth}
use Rattle.declarations.proofs.Every.{every-at, every-all, every-same}
use Rattle.counters.specs.declared.Counters.{Counters}
use Rattle.counters.specs.Counters.{none_set, counter_entered, counters_after, counter_sound}
use Rattle.counters.proofs.Sound.{none-counter, counted-counter}
use Rattle.counter_steps.specs.Steps.{lasts, moved_all, SoundCounters}
use Rattle.counter_steps.proofs.Moves.{moved-sound}
use Rattle.counter_steps.proofs.Job.{set-kept}
use Rattle.stored_values.specs.Stored.{field_at, variable_entered, unset, field_sound}
use Rattle.stored_values.proofs.Fields.{unset-field, entered-field}
use Rattle.values.specs.Sound.{sound_at, values_sound, set_at, all_set}

-- ---- ten at a time

pub sound-at : (d : Declared) (values : List ℕ) (c : Counters) → values_sound d values c ≡ true → (k : ℕ) → k < 10 → sound_at d values c k ≡ true
unfolding values_sound
sound-at d values c h k l = every-at (sound_at d values c) 10 0 k h (omega arith) (omega arith)

pub sound-all : (d : Declared) (values : List ℕ) (c : Counters) → ((k : ℕ) → k < 10 → sound_at d values c k ≡ true) → values_sound d values c ≡ true
unfolding values_sound
sound-all d values c f = every-all (sound_at d values c) 10 0 (λ k a b. f k (omega arith))

pub set-at : (d : Declared) (values : List ℕ) (c : Counters) → all_set d values c ≡ true → (k : ℕ) → k < 10 → set_at d values c k ≡ true
unfolding all_set
set-at d values c h k l = every-at (set_at d values c) 10 0 k h (omega arith) (omega arith)

-- ---- fields and counters apart

module _ (d : Declared) (values : List ℕ) (c : Counters) where
  -- both of each number
  pub sound-both : ((k : ℕ) → k < 10 → field_sound d k (field_at values k) ≡ true) → ((k : ℕ) → k < 10 → counter_sound d c k ≡ true) → values_sound d values c ≡ true
  sound-both f g = sound-all d values c (λ k l. and_both (field_sound d k (field_at values k)) (counter_sound d c k) (f k l) (g k l))

  module _ (sound : values_sound d values c ≡ true) (k : ℕ) (l : k < 10) where
    pub field_at_lem : field_sound d k (field_at values k) ≡ true
    field_at_lem = and_left (field_sound d k (field_at values k)) (counter_sound d c k) (sound-at d values c sound k l)

    pub counter_at : counter_sound d c k ≡ true
    counter_at = and_right (field_sound d k (field_at values k)) (counter_sound d c k) (sound-at d values c sound k l)

-- ---- what keeps it

-- with nothing set, values are sound under any declarations
pub sound_none : (d : Declared) (values : List ℕ) → values_sound d (unset values) none_set ≡ true
sound_none d values = sound-both d (unset values) none_set (λ k l. unset-field d values k) (λ k l. none-counter d k)

-- `VC` keeps the counters
pub sound-unset : (d : Declared) (values : List ℕ) (c : Counters) → values_sound d values c ≡ true → values_sound d (unset values) c ≡ true
sound-unset d values c h = sound-both d (unset values) c (λ k l. unset-field d values k) (counter_at d values c h)

-- `?V`, taken or refused
pub sound-entered : (d : Declared) (values : List ℕ) (c : Counters) (n : ℕ) (text : List ℕ) → values_sound d values c ≡ true → length values ≡ 340
    → values_sound d (variable_entered d n text values).values c ≡ true
sound-entered d values c n text h whole =
    sound-both d (variable_entered d n text values).values c (entered-field d values n text whole (field_at_lem d values c h)) (counter_at d values c h)

-- `?C`, taken or refused
pub sound-counted : (d : Declared) (values : List ℕ) (c : Counters) → values_sound d values c ≡ true → length c.value ≡ 10 → (n v : ℕ) → length c.set ≡ 10
    → values_sound d values (counters_after c (counter_entered d c n v)) ≡ true
sound-counted d values c sound ten n v flags =
    sound-both d values (counters_after c (counter_entered d c n v)) (field_at_lem d values c sound) (counted-counter d c ten (counter_at d values c sound) n v flags)

-- ---- a label

pub sound-counters : (d : Declared) (values : List ℕ) (c : Counters) → values_sound d values c ≡ true → length c.set ≡ 10 → length c.value ≡ 10 → SoundCounters d c
sound-counters d values c sound flags ten = record { flags = flags; values = ten; each = counter_at d values c sound }

-- "A label call .. moves counters", and unsets those that run out
pub sound-moved : (d : Declared) (values : List ℕ) (c : Counters) → values_sound d values c ≡ true → SoundCounters d c → values_sound d values (moved_all d c) ≡ true
sound-moved d values c sound s = sound-both d values (moved_all d c) (field_at_lem d values c sound) (moved-sound d c s).each

-- with two labels or more to come, none runs out: all that were set are set
pub all-set-moved : (d : Declared) (c : Counters) → SoundCounters d c → (n : ℕ) → 2 ≤ n → lasts d c n ≡ true → (values : List ℕ)
    → all_set d values (moved_all d c) ≡ all_set d values c
unfolding all_set
all-set-moved d c s n two last values = every-same (set_at d values (moved_all d c)) (set_at d values c) 10 0 (λ k a b.
    let e : tenth (moved_all d c).set k ≡ tenth c.set k = set-kept d c s n two last k (omega arith) in rw e)
