-- Laws of reading a format: where a field is cut or whole, and that what is read is legal.
use Rattle.std.specs.Prelude.{Result, Ok, Err}
use mathlib.Core.Path.{◌≡◌, refl, ap, ◌∙◌}
use mathlib.Core.Bool.{Bool, true, false, cond, ◌&&◌, ◌||◌, or-true}
use mathlib.Core.List.{List}
use Prim.Native.Nat.{ℕ, ◌+◌, ◌≤◌, ◌<◌}
use native.Mathlib.Omega.{arith}
use lib.ListN.{length, get_or}
use lib.Dec.{leb}
use borrow.Author.Tests.{le-leb, lt-leb}
use Rattle.formats.specs.declared.Format.{Format}
use Rattle.formats.specs.declared.Stamp.{Stamp}
use Rattle.formats.specs.declared.Stamp.TheVariants.{Date, Time}
use Rattle.formats.specs.Formats.{format, unit, new_unit, separator, absent, further, legal_format}
use Rattle.fields.proofs.Pairs.{ok_first}
use Rattle.format_field.specs.Reading.{width, field_of, cut_at, spot_of, field_at, further_at, with_third, with_second, with_first, format_at}

pub width-range : (st : Stamp) → (1 ≤ width st) × (width st ≤ 2)
width-range Date = (omega arith, omega arith)
width-range Time = (omega arith, omega arith)

module _ (st : Stamp) (s : List ℕ) (u v at : ℕ) where
  -- the line ends within the field
  pub field_cut : length s < at + width st → field_at st s u v at ≡ Err (cut_at s u v at)
  unfolding field_at
  field_cut h = rw (lt-leb (at + width st) (length s) h)

  pub field-whole : at + width st ≤ length s → field_at st s u v at ≡ spot_of st u v at (field_of st (get_or s at 0) (get_or s (at + 1) 0))
  unfolding field_at
  field-whole h = rw (le-leb (at + width st) (length s) h)

-- ---- what is read is legal

module _ (st : Stamp) (s : List ℕ) (u v at x n : ℕ) where
  -- a field that is read shows a unit of its own
  field-new : field_at st s u v at ≡ Ok (x, n) → new_unit u v (unit st x) ≡ true
  unfolding field_at
  field-new = whole (leb (at + width st) (length s)) (field_of st (get_or s at 0) (get_or s (at + 1) 0))
    where
      spot : (y : ℕ) (b : Bool) → new_unit u v (unit st y) ≡ b → cond {A = Result (ℕ × ℕ) ℕ} b (Ok (y, at + width st)) (Err at) ≡ Ok (x, n) → new_unit u v (unit st x) ≡ true
      spot y true p e = let q : y ≡ x = ok_first e in rw q at p
      spot y false p e = absurd (let z : ◌≡◌ {A = ℕ} 0 1 = cc in omega arith)

      whole : (b : Bool) (y : ℕ) → cond b (spot_of st u v at y) (Err (cut_at s u v at)) ≡ Ok (x, n) → new_unit u v (unit st x) ≡ true
      whole true y e = spot y (new_unit u v (unit st y)) refl e
      whole false y e = absurd (let z : ◌≡◌ {A = ℕ} 0 1 = cc in omega arith)

-- and one that follows stands after a separator
further-new : (st : Stamp) (s : List ℕ) (u v at x n : ℕ) → further_at st s u v at ≡ Ok (x, n) → further st u v (get_or s at 0) x ≡ true
unfolding further_at
further-new st s u v at x n = go (separator (get_or s at 0)) refl
  where
    go : (b : Bool) → separator (get_or s at 0) ≡ b → cond b (field_at st s u v (at + 1)) (Err at) ≡ Ok (x, n) → further st u v (get_or s at 0) x ≡ true
    go true p e = rw (p, field-new st s u v (at + 1) x n e)
    go false p e = absurd (let z : ◌≡◌ {A = ℕ} 0 1 = cc in omega arith)

module _ (st : Stamp) (s : List ℕ) (f : Format) where
  third-legal : (a d b e : ℕ) → new_unit 0 0 (unit st a) ≡ true → further st (unit st a) 0 (get_or s d 0) b ≡ true
      → (t : Result (ℕ × ℕ) ℕ) → further_at st s (unit st a) (unit st b) e ≡ t → with_third s a d b e t ≡ Ok f → legal_format st f ≡ true
  unfolding legal_format
  third-legal a d b e p q (Err x) r w = absurd (let z : ◌≡◌ {A = ℕ} 0 1 = cc in omega arith)
  third-legal a d b e p q (Ok (c, n)) r w = go (leb (length s) n) w
    where
      go : (t : Bool) → cond t (Ok (format a (get_or s d 0) b (get_or s e 0) c)) (Err n) ≡ Ok f → legal_format st f ≡ true
      go true i =
          let g : format a (get_or s d 0) b (get_or s e 0) c ≡ f = cc in
          rw (← g, p, q, further-new st s (unit st a) (unit st b) e c n r)
          (ap (λ (t : Bool). absent (get_or s d 0) b && absent (get_or s e 0) c || t) (or-true (absent (get_or s e 0) c)) ∙ or-true (absent (get_or s d 0) b && absent (get_or s e 0) c))
      go false i = absurd (let z : ◌≡◌ {A = ℕ} 0 1 = cc in omega arith)

  second-legal : (a d : ℕ) → new_unit 0 0 (unit st a) ≡ true → (t : Result (ℕ × ℕ) ℕ) → further_at st s (unit st a) 0 d ≡ t → with_second st s a d t ≡ Ok f → legal_format st f ≡ true
  unfolding legal_format
  second-legal a d p (Err x) r w = absurd (let z : ◌≡◌ {A = ℕ} 0 1 = cc in omega arith)
  second-legal a d p (Ok (b, e)) r w = go (leb (length s) e) w
    where
      k : further st (unit st a) 0 (get_or s d 0) b ≡ true
      k = further-new st s (unit st a) 0 d b e r

      go : (t : Bool) → cond t (Ok (format a (get_or s d 0) b 0 0)) (with_third s a d b e (further_at st s (unit st a) (unit st b) e)) ≡ Ok f → legal_format st f ≡ true
      go true i = let g : format a (get_or s d 0) b 0 0 ≡ f = cc in rw (← g, p, k) (or-true (absent (get_or s d 0) b && true))
      go false i = third-legal a d b e p k (further_at st s (unit st a) (unit st b) e) refl i

  first-legal : (at : ℕ) (t : Result (ℕ × ℕ) ℕ) → field_at st s 0 0 at ≡ t → with_first st s t ≡ Ok f → legal_format st f ≡ true
  unfolding legal_format
  first-legal at (Err x) r w = absurd (let z : ◌≡◌ {A = ℕ} 0 1 = cc in omega arith)
  first-legal at (Ok (a, d)) r w = go (leb (length s) d) w
    where
      k : new_unit 0 0 (unit st a) ≡ true
      k = field-new st s 0 0 at a d r

      go : (t : Bool) → cond t (Ok (format a 0 0 0 0)) (with_second st s a d (further_at st s (unit st a) 0 d)) ≡ Ok f → legal_format st f ≡ true
      go true i = let g : format a 0 0 0 0 ≡ f = cc in rw (← g, k)
      go false i = second-legal a d k (further_at st s (unit st a) 0 d) refl i

  -- what is read is a legal format
  pub read-legal : (at : ℕ) → format_at st s at ≡ Ok f → legal_format st f ≡ true
  unfolding format_at
  read-legal at w = first-legal at (field_at st s 0 0 at) refl w
