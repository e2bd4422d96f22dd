-- Serves the code alone: a run of bytes that is copied at once.
use Rattle.std.specs.Prelude.{List, ℕ, zero, suc, ◌+◌, get_or, set}

-- a list with n bytes of the store, from a place on, put at place k and behind
unfoldable pub copied : List ℕ → ℕ → List ℕ → ℕ → ℕ → List ℕ
copied out k store from zero = out
copied out k store from (suc n) = set (copied out k store from n) (k + n) (get_or store (from + n) 0)
