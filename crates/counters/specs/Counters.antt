-- "A counter is its w digits"; its value, set or unset.
-- Assumes nothing.
use Prim.Native.Char.{code}
use Rattle.std.specs.Prelude.{ℕ, zero, suc, ◌+◌, ◌/◌, ◌%◌, ◌^◌, min, Bool, cond, ◌&&◌, ◌||◌, List, [], ◌∷◌, set, replicate, eqb, ltb, Result, Ok, Err}
use Rattle.std.proofs.lemmas.List.Edits.{sets}
use Rattle.declarations.specs.declared.Declared.{Declared}
use Rattle.counters.specs.declared.Counters.{Counters}
use Rattle.declarations.specs.declared.Refused.{Refused}
use Rattle.declarations.specs.declared.Refused.TheVariants.{Undeclared, Unfit}
use Rattle.declarations.specs.Declarations.{tenth, width_at, counter_declared}

-- 10^w; a width is at most 9
unfoldable pub ten_to : ℕ → ℕ
ten_to w = 10 ^ min w 9

-- ---- digits

-- "A counter is its w digits": the last w digits of n
unfoldable pub digits : ℕ → ℕ → List ℕ
digits zero n = []
digits (suc w) n = (code "0" + n / 10 ^ w % 10) ∷ digits w n

-- serves the code alone: the w digits at the front of nine bytes, zeros behind
unfoldable pub digits_of : ℕ → ℕ → List ℕ
digits_of n w = sets (replicate 9 0) 0 (digits (min w 9) n)

-- ---- values

-- "counters with set or unset (then 0)"
abbrev pub counters : List ℕ → List ℕ → Counters
counters s v = record { set = s; value = v }

abbrev pub counter_set : Counters → ℕ → Bool
counter_set c k = eqb (tenth c.set k) 1

abbrev pub counter_value : Counters → ℕ → ℕ
counter_value c k = tenth c.value k

-- all ten unset
unfoldable pub none_set : Counters
none_set = counters (replicate 10 0) (replicate 10 0)

-- `?Cn,value`: [13] not declared; [17] not "0 to 10^w-1"; else counter n is set to it
unfoldable pub counter_entered : Declared → Counters → ℕ → ℕ → Result Counters Refused
counter_entered d c n v = cond (counter_declared d n)
    (cond (ltb v (ten_to (width_at d n))) (Ok (counters (set c.set n 1) (set c.value n v))) (Err Unfit))
    (Err Undeclared)

-- the counters after it: where it is refused, as they were
abbrev pub counters_after : Counters → Result Counters Refused → Counters
counters_after c (Ok after) = after
counters_after c (Err refused) = c

-- ---- sound

-- "counters with set or unset (then 0)"; a set one is declared and below 10^w
unfoldable pub counter_sound : Declared → Counters → ℕ → Bool
counter_sound d c k =
    (eqb (tenth c.set k) 0 && eqb (counter_value c k) 0) || (counter_set c k && (counter_declared d k && ltb (counter_value c k) (ten_to (width_at d k))))
