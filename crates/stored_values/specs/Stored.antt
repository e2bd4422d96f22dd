-- "Values: 10 fields of 34 bytes: set (0 or 1), length, 32 bytes zero-filled. An unset field is all zero."
-- Assumes nothing.
use Rattle.std.specs.Prelude.{ℕ, ◌+◌, ◌-◌, ◌*◌, Bool, cond, ◌&&◌, ◌||◌, List, [], ◌∷◌, ◌++◌, length, get_or, take, drop, replicate, eqb, leb, ltb, Result, Ok, Err}
use Rattle.std.proofs.lemmas.List.Edits.{sets}
use Rattle.kinds.specs.Bytes.{all_in}
use Rattle.declarations.specs.declared.Declared.{Declared}
use Rattle.declarations.specs.declared.Refused.{Refused}
use Rattle.declarations.specs.declared.Refused.TheVariants.{Undeclared, Unfit}
use Rattle.declarations.specs.Declarations.{length_at, side_at, variable_declared}
use Rattle.padding.specs.Padding.{enters, padded, fits}

-- "10 fields of 34 bytes", and those of them that hold the value
abbrev pub bytes_a_field : ℕ
bytes_a_field = 34

abbrev pub bytes_a_value : ℕ
bytes_a_value = 32

-- ---- the ten fields

-- "set (0 or 1), length, 32 bytes zero-filled": the field that keeps a value
unfoldable pub field : List ℕ → List ℕ
field v = 1 ∷ length v ∷ (v ++ replicate (bytes_a_value - length v) 0)

-- field k of the ten
unfoldable pub field_at : List ℕ → ℕ → List ℕ
field_at values k = cond (ltb k 10) (take bytes_a_field (drop (bytes_a_field * k) values)) []

-- the value that a field keeps
unfoldable pub value_in : List ℕ → List ℕ
value_in f = take (get_or f 1 0) (drop 2 f)

-- the value of variable k
unfoldable pub variable_in : List ℕ → ℕ → List ℕ
variable_in values k = value_in (field_at values k)

-- "set (0 or 1)"
abbrev pub field_set : List ℕ → Bool
field_set f = eqb (get_or f 0 0) 1

-- ---- entering and unsetting

-- an answer, and the values after it
pub record Stored : Type 0 where
  pub answer : Result Unit Refused
  pub values : List ℕ

abbrev pub stored : Result Unit Refused → List ℕ → Stored
stored a vs = record { answer = a; values = vs }

-- `?Vn,"text"`: [13] not declared; [17] the text does not fit; else field n keeps it as padded
unfoldable pub variable_entered : Declared → ℕ → List ℕ → List ℕ → Stored
variable_entered d n text values = cond (variable_declared d n)
    (cond (enters (side_at d n) (length_at d n) text)
    (stored (Ok tt) (sets values (bytes_a_field * n) (field (padded (side_at d n) (length_at d n) text))))
    (stored (Err Unfit) values))
    (stored (Err Undeclared) values)

-- every byte 0: "An unset field is all zero"
unfoldable pub unset : List ℕ → List ℕ
unset values = replicate (length values) 0

-- ---- sound

-- "zero-filled"
abbrev pub is_zero : ℕ → Bool
is_zero b = eqb b 0

-- a field that keeps a value: set, a length up to 32, a value that fits, zeros behind it
unfoldable pub keeps : ℕ → ℕ → List ℕ → Bool
keeps side m f = field_set f && (leb (get_or f 1 0) bytes_a_value && (fits side m (value_in f) && all_in is_zero (drop (2 + get_or f 1 0) f)))

-- "set values fit its declarations, undeclared ones unset"
unfoldable pub field_sound : Declared → ℕ → List ℕ → Bool
field_sound d k f = all_in is_zero f || (variable_declared d k && keeps (side_at d k) (length_at d k) f)
