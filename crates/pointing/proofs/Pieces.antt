-- What is asked of the reading of one field, so that a row of fields points rightly: of a line s, and of the line with more.
use Rattle.std.specs.Prelude.{Result, Ok, Err}
use mathlib.Core.Path.{◌≡◌}
use mathlib.Core.List.{List, [], ◌∷◌, ◌++◌}
use Prim.Native.Nat.{ℕ, ◌+◌, ◌≤◌, ◌<◌}
use Prim.Native.Char.{code}
use lib.ListN.{length}
use Rattle.fields.specs.Field.{stop_of}

-- how a field is read: of a line, at a place
abbrev pub Reading : Type 0
Reading = List ℕ → ℕ → Result (ℕ × ℕ) ℕ

-- a field ends within the line, and so does its fault
abbrev pub Sits : List ℕ → ℕ → Result (ℕ × ℕ) ℕ → Type 0
Sits s at (Ok (v, e)) = (at < e) × (e ≤ length s)
Sits s at (Err p) = (at ≤ p) × (p ≤ length s)

-- what may stand behind a field: nothing, or a comma
pub data Ended : List ℕ → Type 0 where
  nothing : Ended []
  comma : (m : List ℕ) → Ended (code "," ∷ m)

-- what makes a field whole that ends too soon
pub record Rest (R : Reading) (s : List ℕ) (at : ℕ) : Type 0 where
  pub tail : List ℕ
  pub value : ℕ
  pub whole : (m : List ℕ) → Ended m → R (s ++ (tail ++ m)) at ≡ Ok (value, length s + length tail)

-- what stops before the line ends stops there whatever follows
pub record Piece (R : Reading) : Type 0 where
  pub sits : (s : List ℕ) (at : ℕ) → at ≤ length s → Sits s at (R s at)
  pub firm : (s m : List ℕ) (at : ℕ) → at ≤ length s → stop_of (R s at) < length s → R (s ++ m) at ≡ R s at

-- what makes a field whole that runs to the end of its line and ends too soon
pub record LastRest (R : Reading) (s : List ℕ) (at : ℕ) : Type 0 where
  pub tail : List ℕ
  pub value : ℕ
  pub whole : R (s ++ tail) at ≡ Ok (value, length (s ++ tail))

-- a field that runs to the end of its line: one that is not there yet, for which these bytes may stand, and one that the line cuts off
pub record Last (R : Reading) (blank : List ℕ) : Type 0 where
  pub piece : Piece R
  pub value : ℕ
  pub empty : (s : List ℕ) → R (s ++ blank) (length s) ≡ Ok (value, length s + length blank)
  pub rest : (s : List ℕ) (at : ℕ) → at ≤ length s → R s at ≡ Err (length s) → LastRest R s at

-- a field that a comma ends: one that ends with the line, one that is not there yet, and one of which a part is
pub record Full (R : Reading) : Type 0 where
  pub piece : Piece R
  pub ends : (s m : List ℕ) (at v : ℕ) → at ≤ length s → R s at ≡ Ok (v, length s) → R (s ++ (code "," ∷ m)) at ≡ Ok (v, length s)
  pub blank : List ℕ
  pub value : ℕ
  pub empty : (s m : List ℕ) → Ended m → R (s ++ (blank ++ m)) (length s) ≡ Ok (value, length s + length blank)
  pub rest : (s : List ℕ) (at : ℕ) → at < length s → R s at ≡ Err (length s) → Rest R s at
