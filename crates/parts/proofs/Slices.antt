-- Laws on the part of a list behind a place.
use mathlib.Core.Path.{◌≡◌, ◌∙◌, sym}
use mathlib.Core.List.{List}
use Prim.Native.Nat.{ℕ, ◌-◌, ◌≤◌}
use native.Mathlib.Omega.{arith}
use lib.ListN.{length, take, drop, length-drop, drop_of_length-le}
use lib.Seq.{take_all}

pub tail_all : (l : List ℕ) (a : ℕ) → take (length l - a) (drop a l) ≡ drop a l
tail_all l a = take_all (length l - a) (drop a l) (omega (arith, length-drop a l))

pub tail_none : (l : List ℕ) (a : ℕ) → length l ≤ a → take (length l - length l) (drop (length l) l) ≡ drop a l
tail_none l a h = tail_all l (length l) ∙ (drop_of_length-le l (let e : length l ≤ length l = omega arith in e) ∙ sym (drop_of_length-le l h))
