-- A format is said by the bytes from its place on: behind other bytes it reads as before, with its places moved. So a line that is kept as it was
-- written, in whatever normal form stands before, reads as it did.
use Rattle.std.specs.Prelude.{Result, Ok, Err}
use mathlib.Core.Path.{◌≡◌, refl}
use mathlib.Core.Bool.{Bool, true, false, cond}
use mathlib.Core.List.{List, ◌++◌}
use Prim.Native.Nat.{ℕ, ◌+◌}
use native.Mathlib.Decide.{dec_le}
use native.Mathlib.Omega.{arith}
use lib.ListN.{length, get_or, length-append}
use lib.Seq.{get_or-append-add}
use lib.Dec.{leb}
use borrow.Author.Tests.{le-leb, lt-leb}
use Rattle.formats.specs.declared.Format.{Format}
use Rattle.formats.specs.declared.Stamp.{Stamp}
use Rattle.formats.specs.Formats.{format, unit, new_unit, separator}
use Rattle.format_field.specs.Reading.{unit_of, width, field_of, cut_at, field_at, further_at, with_third, with_second, with_first, format_at}

-- the same with places n further on
abbrev pub spot_on : ℕ → Result (ℕ × ℕ) ℕ → Result (ℕ × ℕ) ℕ
spot_on n (Ok (x, e)) = Ok (x, n + e)
spot_on n (Err p) = Err (n + p)

abbrev pub found_on : ℕ → Result Format ℕ → Result Format ℕ
found_on n (Ok f) = Ok f
found_on n (Err p) = Err (n + p)

leb-on : (n x y : ℕ) → leb (n + x) (n + y) ≡ leb x y
leb-on n x y = elim (dec_le x y) [
  | yes h ↦ rw (le-leb x y h) (le-leb (n + x) (n + y) (omega arith))
  | no h ↦ rw (lt-leb x y (omega arith)) (lt-leb (n + x) (n + y) (omega arith))
]

cond-on : (n : ℕ) (b : Bool) (x y : ℕ) → cond b (n + x) (n + y) ≡ n + cond b x y
cond-on n true x y = refl
cond-on n false x y = refl

found-on : (n : ℕ) (b : Bool) (f : Format) (t : Result Format ℕ) → cond b (Ok f) (found_on n t) ≡ found_on n (cond b (Ok f) t)
found-on n true f t = refl
found-on n false f t = refl

module _ (st : Stamp) (a s : List ℕ) where
  cut_on : (u v at : ℕ) → cut_at (a ++ s) u v (length a + at) ≡ length a + cut_at s u v at
  unfolding cut_at
  cut_on u v at = rw (get_or-append-add a s at 0, length-append a s) (cond-on (length a) (new_unit u v (unit_of (get_or s at 0))) (length s) at)

  pub field-on : (u v at : ℕ) → field_at st (a ++ s) u v (length a + at) ≡ spot_on (length a) (field_at st s u v at)
  unfolding field_at
  field-on u v at =
      let p : length a + at + width st ≡ length a + (at + width st) = omega arith in
      let q : length a + at + 1 ≡ length a + (at + 1) = omega arith in
      rw (length-append a s, p, q, leb-on (length a) (at + width st) (length s), get_or-append-add a s at 0, get_or-append-add a s (at + 1) 0, cut_on u v at)
      (go (leb (at + width st) (length s)) (field_of st (get_or s at 0) (get_or s (at + 1) 0)))
    where
      spot : (b : Bool) (x : ℕ) → cond b (Ok (x, length a + (at + width st))) (Err (length a + at)) ≡ spot_on (length a) (cond b (Ok (x, at + width st)) (Err at))
      spot true x = refl
      spot false x = refl

      go : (b : Bool) (x : ℕ)
          → cond b (cond (new_unit u v (unit st x)) (Ok (x, length a + (at + width st))) (Err (length a + at))) (Err (length a + cut_at s u v at))
          ≡ spot_on (length a) (cond b (cond (new_unit u v (unit st x)) (Ok (x, at + width st)) (Err at)) (Err (cut_at s u v at)))
      go true x = spot (new_unit u v (unit st x)) x
      go false x = refl

  further-on : (u v at : ℕ) → further_at st (a ++ s) u v (length a + at) ≡ spot_on (length a) (further_at st s u v at)
  unfolding further_at
  further-on u v at =
      let q : length a + at + 1 ≡ length a + (at + 1) = omega arith in
      rw (q, get_or-append-add a s at 0, field-on u v (at + 1)) (go (separator (get_or s at 0)) (field_at st s u v (at + 1)))
    where
      go : (b : Bool) (t : Result (ℕ × ℕ) ℕ) → cond b (spot_on (length a) t) (Err (length a + at)) ≡ spot_on (length a) (cond b t (Err at))
      go true t = refl
      go false t = refl

  third-on : (x d b e : ℕ) (t : Result (ℕ × ℕ) ℕ) → with_third (a ++ s) x (length a + d) b (length a + e) (spot_on (length a) t) ≡ found_on (length a) (with_third s x d b e t)
  third-on x d b e (Ok (c, k)) =
      rw (length-append a s, leb-on (length a) (length s) k, get_or-append-add a s d 0, get_or-append-add a s e 0)
      (found-on (length a) (leb (length s) k) (format x (get_or s d 0) b (get_or s e 0) c) (Err k))
  third-on x d b e (Err p) = refl

  second-on : (x d : ℕ) (t : Result (ℕ × ℕ) ℕ) → with_second st (a ++ s) x (length a + d) (spot_on (length a) t) ≡ found_on (length a) (with_second st s x d t)
  second-on x d (Ok (b, e)) =
      rw (length-append a s, leb-on (length a) (length s) e, get_or-append-add a s d 0, further-on (unit st x) (unit st b) e, third-on x d b e (further_at st s (unit st x) (unit st b) e))
      (found-on (length a) (leb (length s) e) (format x (get_or s d 0) b 0 0) (with_third s x d b e (further_at st s (unit st x) (unit st b) e)))
  second-on x d (Err p) = refl

  first_on : (t : Result (ℕ × ℕ) ℕ) → with_first st (a ++ s) (spot_on (length a) t) ≡ found_on (length a) (with_first st s t)
  first_on (Ok (x, d)) =
      rw (length-append a s, leb-on (length a) (length s) d, further-on (unit st x) 0 d, second-on x d (further_at st s (unit st x) 0 d))
      (found-on (length a) (leb (length s) d) (format x 0 0 0 0) (with_second st s x d (further_at st s (unit st x) 0 d)))
  first_on (Err p) = refl

  pub format-on : (at : ℕ) → format_at st (a ++ s) (length a + at) ≡ found_on (length a) (format_at st s at)
  unfolding format_at
  format-on at = rw (field-on 0 0 at) (first_on (field_at st s 0 0 at))
