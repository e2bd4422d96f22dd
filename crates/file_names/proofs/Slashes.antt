-- The last `/` of a path, byte by byte.
use mathlib.Core.Path.{◌≡◌}
use mathlib.Core.List.{List}
use Prim.Native.Nat.{ℕ, ◌+◌, ◌≤◌, ◌<◌}
use native.Mathlib.Numerals.{add-one}
use lib.ListN.{length, get_or, drop, drop_of_length-le}
use lib.Seq.{drop-cons}
use Rattle.file_names.specs.Names.{after_slash, last_slash}

module _ (path : List ℕ) (i best : ℕ) where
  pub slash-next : i < length path → last_slash i best (drop i path) ≡ last_slash (i + 1) (after_slash (get_or path i 0) (i + 1) best) (drop (i + 1) path)
  unfolding last_slash
  slash-next h = rw (add-one, drop-cons path i 0 h)

  pub slash-end : length path ≤ i → last_slash i best (drop i path) ≡ best
  unfolding last_slash
  slash-end h = rw (drop_of_length-le path h)
