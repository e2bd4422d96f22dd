-- Paper 02, §9: "Write type 1 with sets B and C, changing sets as ISO/IEC 15417 allows, so that no other writing of the same data with these two sets has
-- fewer symbols; among equals, the one whose first differing symbol value is smaller. The smallest number is defined over all writings and not by how ours is
-- found." A writing is the values of its symbols from the start symbol on. The check symbol and the stop, which every writing has, are left out; there is no
-- shift and there are no function symbols. s is the data's bytes.
-- Assumes nothing.
use Rattle.std.specs.Prelude.{ℕ, ◌+◌, ◌-◌, ◌*◌, ◌<◌, ◌≡◌, Bool, true, List, [], ◌∷◌, map, length}
use Prim.Native.Char.{code}
use Rattle.kinds.specs.Bytes.{between, is_digit}
use Rattle.shortest.specs.declared.Set.{Set}
use Rattle.shortest.specs.declared.Set.TheVariants.{B, C}

-- the bytes that data can have, 32 to 126
abbrev pub printable : ℕ → Bool
printable a = between (code " ") (code "~") a

-- in set B a symbol is a byte less 32
abbrev pub byte_of : ℕ → ℕ
byte_of a = a - code " "

-- in set C it is two digits, 0 to 99
abbrev pub pair_of : ℕ → ℕ → ℕ
pair_of a b = 10 * (a - code "0") + (b - code "0")

-- "with sets B and C, changing sets as ISO/IEC 15417 allows": data and what it is written as, from a set on. In set B a byte, or 99 for the change to C; in
-- set C two digits, or 100 for the change to B. A change may stand anywhere, at the end and behind another too
pub data Writes : Set → List ℕ → List ℕ → Type 0 where
  done : {set : Set} → Writes set [] []
  byte : {a : ℕ} {s v : List ℕ} → printable a ≡ true → Writes B s v → Writes B (a ∷ s) (byte_of a ∷ v)
  pair : {a b : ℕ} {s v : List ℕ} → is_digit a ≡ true → is_digit b ≡ true → Writes C s v → Writes C (a ∷ b ∷ s) (pair_of a b ∷ v)
  to_c : {s v : List ℕ} → Writes C s v → Writes B s (99 ∷ v)
  to_b : {s v : List ℕ} → Writes B s v → Writes C s (100 ∷ v)

-- a whole writing: start B, 104, or start C, 105, and the data from that set on
pub data Writing (s : List ℕ) : List ℕ → Type 0 where
  start_b : {v : List ℕ} → Writes B s v → Writing s (104 ∷ v)
  start_c : {v : List ℕ} → Writes C s v → Writing s (105 ∷ v)

-- "the one whose first differing symbol value is smaller": of two writings with as many symbols, the one is the other or is smaller at the first that differs
pub data NotAbove : List ℕ → List ℕ → Type 0 where
  same : NotAbove [] []
  smaller : {x y : ℕ} {v u : List ℕ} → x < y → NotAbove (x ∷ v) (y ∷ u)
  next : {x : ℕ} {v u : List ℕ} → NotAbove v u → NotAbove (x ∷ v) (x ∷ u)

-- "fewer symbols; among equals" that one
pub data NoLater (v u : List ℕ) : Type 0 where
  fewer : length v < length u → NoLater v u
  as_many : length v ≡ length u → NotAbove v u → NoLater v u

-- the writing that is asked for, "over all writings"
pub record Shortest (s v : List ℕ) : Type 0 where
  pub writes : Writing s v
  pub first : (u : List ℕ) → Writing s u → NoLater v u

-- paper 01's writing, "set B alone", which ours is held against
abbrev pub set_b_alone : List ℕ → List ℕ
set_b_alone s = 104 ∷ map byte_of s
