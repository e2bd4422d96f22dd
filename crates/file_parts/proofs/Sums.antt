-- Sums, one byte at a time.
use mathlib.Core.Path.{◌≡◌}
use mathlib.Core.List.{List}
use Prim.Native.Nat.{ℕ, ◌+◌, ◌≤◌, ◌<◌}
use native.Mathlib.Numerals.{add-one}
use lib.ListN.{length, get_or, drop, drop_of_length-le}
use lib.Seq.{drop-cons}
use Rattle.file_parts.specs.Sums.{stepped, summed}

module _ (l : List ℕ) (i s : ℕ) where
  pub sum-next : i < length l → summed s (drop i l) ≡ summed (stepped s (get_or l i 0)) (drop (i + 1) l)
  unfolding summed
  sum-next h = rw (add-one i, drop-cons l i 0 h)

  pub sum-end : length l ≤ i → summed s (drop i l) ≡ s
  unfolding summed
  sum-end h = rw (drop_of_length-le l h)
