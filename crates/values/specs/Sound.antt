-- Sound's clauses on values: "set values fit its declarations, undeclared ones unset", and "all declared values are set".
-- Assumes nothing.
use Rattle.std.specs.Prelude.{ℕ, Bool, ◌&&◌, ◌||◌, not, List}
use Rattle.declarations.specs.declared.Declared.{Declared}
use Rattle.declarations.specs.Declarations.{every, variable_declared, counter_declared}
use Rattle.counters.specs.declared.Counters.{Counters}
use Rattle.counters.specs.Counters.{counter_set, counter_sound}
use Rattle.stored_values.specs.Stored.{field_at, field_set, field_sound}

-- variable k and counter k
abbrev pub sound_at : Declared → List ℕ → Counters → ℕ → Bool
sound_at d values c k = field_sound d k (field_at values k) && counter_sound d c k

-- the values' part of sound; with no form nothing is declared
unfoldable pub values_sound : Declared → List ℕ → Counters → Bool
values_sound d values c = every (sound_at d values c) 10 0

-- "all declared values are set"
abbrev pub set_at : Declared → List ℕ → Counters → ℕ → Bool
set_at d values c k = (not (variable_declared d k) || field_set (field_at values k)) && (not (counter_declared d k) || counter_set c k)

unfoldable pub all_set : Declared → List ℕ → Counters → Bool
all_set d values c = every (set_at d values c) 10 0
