-- The line of a listing read back: "A listing line is size, comma, quoted name".
-- Assumes nothing.
use Rattle.std.specs.Prelude.{ℕ, ◌≡◌, refl, List, Result, Ok, Err}
use Prim.Native.Char.{code}
use Rattle.kinds.specs.Bytes.{between}
use Rattle.kinds.specs.Text.{bytes}
use Rattle.classes.specs.Bytes.{run}
use Rattle.numbers.specs.Number.{value_from, number_at}
use Rattle.fields.specs.Field.{text_at, byte_at}

-- the size, the place of the name's first quote, and how many bytes stand between its quotes; or the place at fault
pub data Listed : Type 0 where
  Entry : ℕ → ℕ → ℕ → Listed
  Wrong : ℕ → Listed

-- the place after a field; where the field is not there, the place stays
abbrev pub place_after : Result (ℕ × ℕ) ℕ → ℕ → ℕ
place_after (Ok (v, e)) at = e
place_after (Err p) at = at

-- the first of the three that is not there is at fault
abbrev pub listed_from : Result (ℕ × ℕ) ℕ → Result (ℕ × ℕ) ℕ → Result (ℕ × ℕ) ℕ → Listed
listed_from (Err p) c t = Wrong p
listed_from (Ok (n, e)) (Err p) t = Wrong p
listed_from (Ok (n, e)) (Ok (b, at)) (Err p) = Wrong p
listed_from (Ok (n, e)) (Ok (b, at)) (Ok (k, f)) = Entry n at k

-- the comma behind the size, and the name behind the comma
unfoldable pub listed_at : List ℕ → ℕ → Listed
listed_at s at =
    listed_from (number_at s at) (byte_at (code ",") s (place_after (number_at s at) at)) (text_at s (place_after (byte_at (code ",") s (place_after (number_at s at) at)) (place_after (number_at s at) at)))

-- "23,"TEST"", the sample session's listing
sample : listed_at (bytes "23,\"TEST\"") 0 ≡ Entry 23 3 4
unfolding listed_at number_at byte_at text_at run between value_from
sample = refl

-- a line behind another
second : listed_at (bytes "23,\"TEST\"\n9,\"A B\"\n") 10 ≡ Entry 9 12 3
unfolding listed_at number_at byte_at text_at run between value_from
second = refl

-- the place at fault: of the comma, of the size, of the end that the name runs into
no-comma : listed_at (bytes "23\"TEST\"") 0 ≡ Wrong 2
unfolding listed_at number_at byte_at text_at run between value_from
no-comma = refl

no_size : listed_at (bytes ",\"TEST\"") 0 ≡ Wrong 0
unfolding listed_at number_at byte_at text_at run between value_from
no_size = refl

no_end : listed_at (bytes "23,\"TEST") 0 ≡ Wrong 8
unfolding listed_at number_at byte_at text_at run between value_from
no_end = refl
