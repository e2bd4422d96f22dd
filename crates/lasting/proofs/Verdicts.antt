-- What the tests of a file amount to.
use mathlib.Core.Path.{◌≡◌}
use mathlib.Core.Bool.{Bool, true, false, not, ◌&&◌, ◌||◌, cond}
use mathlib.Core.List.{List}
use Prim.Native.Nat.{ℕ}
use lib.ListN.{length}
use lib.Dec.{eqb, ltb}
use Rattle.std.specs.Prelude.{Result, Ok, Err}
use Rattle.writing.specs.Writing.{equal}
use Rattle.low_first.specs.Low.{number_at}
use Rattle.lasting.specs.declared.judged.Fault.{Fault}
use Rattle.lasting.specs.declared.judged.Fault.TheVariants.{Foreign, Version, Sizes, Length, Damaged, Slots}
use Rattle.lasting.specs.File.{name, rows_of, file_size, file_sum, version_wrong, sizes_wrong, chosen, judged}
use Rattle.file_parts.specs.Sums.{part_of}
use Rattle.slots.specs.Slots.{version_at, slot_of, body_sum_at, whole}

module _ (f : List ℕ) (a b t e : Bool) (x y : ℕ) (ha : a ≡ whole f (slot_of 0)) (hb : b ≡ whole f (slot_of 1)) (hx : x ≡ number_at 4 f (slot_of 0)) (hy : y ≡ number_at 4 f (slot_of 1))
    (he : e ≡ (not a || ltb x y)) (ht : t ≡ (b && e)) where
  chosen_by : chosen f ≡ cond t (Ok 1) (cond a (Ok 0) (Err Slots))
  unfolding chosen
  chosen_by = rw (ht, he, ha, hb, hx, hy)

  pub chosen-second : t ≡ true → Ok 1 ≡ chosen f
  chosen-second h = rw chosen_by (rw h)

  pub chosen-first : t ≡ false → a ≡ true → Ok 0 ≡ chosen f
  chosen-first h k = rw chosen_by (rw (h, k))

  pub chosen_none : t ≡ false → a ≡ false → Err Slots ≡ chosen f
  chosen_none h k = rw chosen_by (rw (h, k))

module _ (f : List ℕ) (a b c d e : Bool) (v : Result ℕ Fault) where
  pub judged-by : a ≡ not (equal (part_of f 0 version_at) name) → b ≡ version_wrong f → c ≡ sizes_wrong f
      → d ≡ not (eqb (length f) (file_size (rows_of f))) → e ≡ not (eqb (file_sum f) (number_at 4 f body_sum_at)) → v ≡ chosen f
      → cond a (Err Foreign) (cond b (Err Version) (cond c (Err Sizes) (cond d (Err Length) (cond e (Err Damaged) v)))) ≡ judged f
  unfolding judged
  judged-by ha hb hc hd he hv = rw (ha, hb, hc, hd, he, hv)
