-- Paper 02, §3: whether counters have numbers for so many labels, and their move after each label.
-- Assumes nothing.
use Rattle.std.specs.Prelude.{ℕ, zero, suc, ◌+◌, ◌-◌, ◌*◌, ◌<◌, ◌≡◌, Bool, true, cond, not, ◌&&◌, ◌||◌, List, length, set, leb, ltb}
use Rattle.declarations.specs.declared.Declared.{Declared}
use Rattle.declarations.specs.Declarations.{tenth, every, width_at, minus_at, step_at, counter_declared}
use Rattle.counters.specs.declared.Counters.{Counters}
use Rattle.counters.specs.Counters.{ten_to, counters, counter_set, counter_value, counter_sound}
use Rattle.counter_steps.specs.declared.Counter.{Counter}

-- ---- one counter

-- where a counter at n is, gone so far forward or back (minus)
unfoldable pub onward : Bool → ℕ → ℕ → ℕ
onward minus far n = cond minus (n - far) (n + far)

-- whether it is then in "0 to 10^w-1": back, it does not fall below 0
unfoldable pub inside : ℕ → Bool → ℕ → ℕ → Bool
inside w minus far n = (not minus || leb far n) && ltb (onward minus far n) (ten_to w)

-- a counter that counts: it is declared and set
abbrev pub counts : Declared → Counters → ℕ → Bool
counts d c k = counter_declared d k && counter_set c k

-- whether "its value plus" so many "times its step" is in that range, of counter k
abbrev pub inside_at : Declared → Counters → ℕ → ℕ → Bool
inside_at d c k steps = inside (width_at d k) (minus_at d k) (steps * step_at d k) (counter_value c k)

-- ---- numbers for n labels

-- "its value plus (k-1) times its step falls outside", of counter k and n labels, denied. A counter that is not set is 18, not 22
abbrev pub lasts_at : Declared → Counters → ℕ → ℕ → Bool
lasts_at d c n k = not (counts d c k) || inside_at d c k (n - 1)

-- "for some counter of the active form", denied: no counter runs out within n labels
unfoldable pub lasts : Declared → Counters → ℕ → Bool
lasts d c n = every (lasts_at d c n) 10 0

-- ---- the move after a label

-- a counter, "set or unset (then 0)"
abbrev pub counter : ℕ → ℕ → Counter
counter s v = record { set = s; value = v }

-- counter k one step on: "If the move after the last label leaves that range, the counter becomes unset". Before the last label it does not leave it
unfoldable pub stepped_at : Declared → Counters → ℕ → Counter
stepped_at d c k = cond (inside_at d c k 1) (counter 1 (onward (minus_at d k) (step_at d k) (counter_value c k))) (counter 0 0)

-- counter k after a label: it moves if it is declared and set
unfoldable pub moved_at : Declared → Counters → ℕ → Counter
moved_at d c k = cond (counts d c k) (stepped_at d c k) (counter (tenth c.set k) (counter_value c k))

-- of n places from the k-th on, each holds f of its number
abbrev pub renewed : (ℕ → ℕ) → ℕ → ℕ → List ℕ → List ℕ
renewed f zero k out = out
renewed f (suc n) k out = renewed f n (suc k) (set out k (f k))

-- "A label call .. moves counters": all ten, each once
unfoldable pub moved_all : Declared → Counters → Counters
moved_all d c = counters (renewed (λ k. (moved_at d c k).set) 10 0 c.set) (renewed (λ k. (moved_at d c k).value) 10 0 c.value)

-- after i labels
abbrev pub moved_times : Declared → Counters → ℕ → Counters
moved_times d c zero = c
moved_times d c (suc i) = moved_all d (moved_times d c i)

-- ---- what the theorems speak of

-- ten counters, each sound: as in every sound session
pub record SoundCounters (d : Declared) (c : Counters) : Type 0 where
  pub flags : length c.set ≡ 10
  pub values : length c.value ≡ 10
  pub each : (k : ℕ) → k < 10 → counter_sound d c k ≡ true

-- b lies beyond a in the direction of the steps: above it, or below it (minus)
abbrev pub beyond : Bool → ℕ → ℕ → Bool
beyond minus a b = cond minus (ltb b a) (ltb a b)
