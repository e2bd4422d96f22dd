-- How the writing of paper 02, §9, is found: from the last byte back, the best writing in each set of what is left. That it is the one asked for is
-- `ours-shortest` of proofs/Shortest.antt.
-- Assumes nothing.
use Rattle.std.specs.Prelude.{ℕ, ◌+◌, Bool, cond, ◌&&◌, List, [], ◌∷◌, length, get_or, ltb}
use Rattle.kinds.specs.declared.Kind.TheVariants.{Code128}
use Rattle.kinds.specs.Bytes.{is_digit}
use Rattle.kinds.specs.Fit.{fit}
use Rattle.shortest.specs.declared.Set.{Set}
use Rattle.shortest.specs.declared.Set.TheVariants.{B, C}
use Rattle.shortest.specs.Writing.{byte_of, pair_of}

-- the best writings of some data: in set B, in set C, and in set C without its first byte
pub record Best : Type 0 where
  pub in_b : List ℕ
  pub in_c : List ℕ
  pub later : List ℕ

-- two digits
abbrev pub two : ℕ → ℕ → Bool
two a b = is_digit a && is_digit b

-- set B is left where two digits and what is behind them are strictly shorter in set C: 99 and the pair against the byte
unfoldable pub leaves_b : ℕ → ℕ → Best → Bool
leaves_b a b r = two a b && ltb (length r.later + 1) (length r.in_b)

-- a byte a before data whose best writings are r, and b the data's first byte or 0. In set C two digits are always a pair
unfoldable pub step : ℕ → ℕ → Best → Best
step a b r = record {
  in_b = cond (leaves_b a b r) (99 ∷ pair_of a b ∷ r.later) (byte_of a ∷ r.in_b);
  in_c = cond (two a b) (pair_of a b ∷ r.later) (100 ∷ byte_of a ∷ r.in_b);
  later = r.in_c;
}

unfoldable pub best : List ℕ → Best
best [] = record { in_b = []; in_c = []; later = [] }
best (a ∷ s) = step a (get_or s 0 0) (best s)

-- the one of a set
abbrev pub in_set : Set → Best → List ℕ
in_set B r = r.in_b
in_set C r = r.in_c

-- set C from the start where that is strictly shorter
unfoldable pub started : Best → List ℕ
started r = cond (ltb (length r.in_c) (length r.in_b)) (105 ∷ r.in_c) (104 ∷ r.in_b)

-- type 1's symbols, the start and the data; data that are unfit have none
unfoldable pub our_writing : List ℕ → List ℕ
our_writing s = cond (fit Code128 s) (started (best s)) []

-- for the code's lists: the start, and at most one symbol for each of 128 bytes
abbrev pub most_symbols : ℕ
most_symbols = 129
