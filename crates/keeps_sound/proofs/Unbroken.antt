-- A format that was read has no LF in it: its letters are none, and "a separator is any one byte 33 to 126 but the quote".
-- Assumes nothing.
use Rattle.std.specs.Prelude.{Result, Ok, Err}
use mathlib.Core.Path.{◌≡◌, refl, sym, ap, ◌∙◌}
use mathlib.Core.Bool.{Bool, true, false, cond, false≢true}
use mathlib.Core.List.{List, [], ◌∷◌}
use Prim.Native.Nat.{ℕ, zero, suc, ◌+◌, ◌≤◌, ◌<◌}
use native.Mathlib.Omega.{arith}
use native.Mathlib.Decide.{ℕ_discrete, dec_lt}
use lib.ListN.{length, get_or, drop}
use lib.Dec.{leb}
use borrow.Author.Tests.{leb-true}
use Rattle.kinds.specs.Bytes.{between}
use Rattle.formats.specs.declared.Format.{Format}
use Rattle.formats.specs.declared.Stamp.{Stamp}
use Rattle.formats.specs.declared.Stamp.TheVariants.{Date, Time}
use Rattle.formats.specs.Formats.{format, unit, new_unit, separator}
use Rattle.formats.proofs.Legality.{no-new}
use Rattle.format_field.specs.Reading.{letter, date_field, time_field, width, field_of, cut_at, spot_of, field_at, further_at, with_third, with_second, with_first, format_at, format_field}
use Rattle.fields.proofs.Pairs.{ok_second}
use Rattle.format_field.proofs.Laws.{format_read}

-- no LF from a place to another
abbrev pub Unbroken : List ℕ → ℕ → ℕ → Type 0
Unbroken s a b = (i : ℕ) → a ≤ i → i < b → get_or s i 0 ≡ 10 → ⊥

joined : (s : List ℕ) (a b c : ℕ) → Unbroken s a b → Unbroken s b c → Unbroken s a c
joined s a b c h k i l m = go (dec_lt i b)
  where
    go : Dec (i < b) → get_or s i 0 ≡ 10 → ⊥
    go (yes x) = h i l x
    go (no x) = k i (omega arith) m

-- ---- a field

one_of : (a b c : Bool) → ◌≡◌ {A = ℕ} (cond a 0 (cond b 0 (cond c 0 0))) 0
one_of true b c = refl
one_of false true c = refl
one_of false false true = refl
one_of false false false = refl

no-date : (a : ℕ) → date_field a 10 ≡ 0
unfolding date_field letter
no-date a = one_of (letter 89 a) (letter 77 a) (letter 68 a)

module _ (s : List ℕ) (u v at : ℕ) where
  first-letter : (st : Stamp) → new_unit u v (unit st (field_of st (get_or s at 0) (get_or s (at + 1) 0))) ≡ true → get_or s at 0 ≡ 10 → ⊥
  unfolding date_field time_field letter unit between
  first-letter Date h e = false≢true (sym (no-new u v) ∙ rw e at h)
  first-letter Time h e = false≢true (sym (no-new u v) ∙ rw e at h)

  second-letter : new_unit u v (unit Date (date_field (get_or s at 0) (get_or s (at + 1) 0))) ≡ true → get_or s (at + 1) 0 ≡ 10 → ⊥
  unfolding unit between
  second-letter h e = false≢true (sym (no-new u v) ∙ rw (e, no-date (get_or s at 0)) at h)

  letters-unbroken : (st : Stamp) → new_unit u v (unit st (field_of st (get_or s at 0) (get_or s (at + 1) 0))) ≡ true → Unbroken s at (at + width st)
  letters-unbroken Date h i l m = go (ℕ_discrete i at)
    where
      go : Dec (i ≡ at) → get_or s i 0 ≡ 10 → ⊥
      go (yes x) e = first-letter Date h (ap (λ (k : ℕ). get_or s k 0) (sym x) ∙ e)
      go (no x) e = let y : at + 1 ≡ i = omega arith in second-letter h (ap (λ (k : ℕ). get_or s k 0) y ∙ e)
  letters-unbroken Time h i l m = λ e. let y : at ≡ i = omega arith in first-letter Time h (ap (λ (k : ℕ). get_or s k 0) y ∙ e)

field-unbroken : (st : Stamp) (s : List ℕ) (u v at x n : ℕ) → field_at st s u v at ≡ Ok (x, n) → Unbroken s at n
unfolding field_at
field-unbroken st s u v at x n = whole (leb (at + width st) (length s))
  where
    spot : (b : Bool) → new_unit u v (unit st (field_of st (get_or s at 0) (get_or s (at + 1) 0))) ≡ b
        → cond {A = Result (ℕ × ℕ) ℕ} b (Ok (field_of st (get_or s at 0) (get_or s (at + 1) 0), at + width st)) (Err at) ≡ Ok (x, n) → Unbroken s at n
    spot true p e = let q : at + width st ≡ n = ok_second e in rw q at (letters-unbroken s u v at st p)
    spot false p e = absurd (let z : ◌≡◌ {A = ℕ} 0 1 = cc in omega arith)

    whole : (b : Bool) → cond b (spot_of st u v at (field_of st (get_or s at 0) (get_or s (at + 1) 0))) (Err (cut_at s u v at)) ≡ Ok (x, n) → Unbroken s at n
    whole true e = spot (new_unit u v (unit st (field_of st (get_or s at 0) (get_or s (at + 1) 0)))) refl e
    whole false e = absurd (let z : ◌≡◌ {A = ℕ} 0 1 = cc in omega arith)

lf-no-mark : separator 10 ≡ true → ⊥
unfolding separator between
lf-no-mark e = false≢true e

-- a separator and a field
further-unbroken : (st : Stamp) (s : List ℕ) (u v at x n : ℕ) → further_at st s u v at ≡ Ok (x, n) → Unbroken s at n
unfolding further_at
further-unbroken st s u v at x n = go (separator (get_or s at 0)) refl
  where
    mark : separator (get_or s at 0) ≡ true → Unbroken s at (at + 1)
    mark h i l m e =
        let y : at ≡ i = omega arith in
        let z : get_or s at 0 ≡ 10 = ap (λ (k : ℕ). get_or s k 0) y ∙ e in
        lf-no-mark (rw z at h)

    go : (b : Bool) → separator (get_or s at 0) ≡ b → cond b (field_at st s u v (at + 1)) (Err at) ≡ Ok (x, n) → Unbroken s at n
    go true p e = joined s at (at + 1) n (mark p) (field-unbroken st s u v (at + 1) x n e)
    go false p e = absurd (let z : ◌≡◌ {A = ℕ} 0 1 = cc in omega arith)

-- ---- the format

module _ (st : Stamp) (s : List ℕ) (f : Format) where
  less : (at n : ℕ) → length s ≤ n → Unbroken s at n → Unbroken s at (length s)
  less at n h k i l m = k i l (omega arith)

  third : (at a d b e : ℕ) → Unbroken s at e → (t : Result (ℕ × ℕ) ℕ) → further_at st s (unit st a) (unit st b) e ≡ t → with_third s a d b e t ≡ Ok f → Unbroken s at (length s)
  third at a d b e k (Err x) r w = absurd (let z : ◌≡◌ {A = ℕ} 0 1 = cc in omega arith)
  third at a d b e k (Ok (c, n)) r w = go (leb (length s) n) refl w
    where
      go : (t : Bool) → leb (length s) n ≡ t → cond t (Ok (format a (get_or s d 0) b (get_or s e 0) c)) (Err n) ≡ Ok f → Unbroken s at (length s)
      go true q i = less at n (leb-true (length s) n q) (joined s at e n k (further-unbroken st s (unit st a) (unit st b) e c n r))
      go false q i = absurd (let z : ◌≡◌ {A = ℕ} 0 1 = cc in omega arith)

  second : (at a d : ℕ) → Unbroken s at d → (t : Result (ℕ × ℕ) ℕ) → further_at st s (unit st a) 0 d ≡ t → with_second st s a d t ≡ Ok f → Unbroken s at (length s)
  second at a d k (Err x) r w = absurd (let z : ◌≡◌ {A = ℕ} 0 1 = cc in omega arith)
  second at a d k (Ok (b, e)) r w = go (leb (length s) e) refl w
    where
      both : Unbroken s at e
      both = joined s at d e k (further-unbroken st s (unit st a) 0 d b e r)

      go : (t : Bool) → leb (length s) e ≡ t → cond t (Ok (format a (get_or s d 0) b 0 0)) (with_third s a d b e (further_at st s (unit st a) (unit st b) e)) ≡ Ok f → Unbroken s at (length s)
      go true q i = less at e (leb-true (length s) e q) both
      go false q i = third at a d b e both (further_at st s (unit st a) (unit st b) e) refl i

  first : (at : ℕ) (t : Result (ℕ × ℕ) ℕ) → field_at st s 0 0 at ≡ t → with_first st s t ≡ Ok f → Unbroken s at (length s)
  first at (Err x) r w = absurd (let z : ◌≡◌ {A = ℕ} 0 1 = cc in omega arith)
  first at (Ok (a, d)) r w = go (leb (length s) d) refl w
    where
      go : (t : Bool) → leb (length s) d ≡ t → cond t (Ok (format a 0 0 0 0)) (with_second st s a d (further_at st s (unit st a) 0 d)) ≡ Ok f → Unbroken s at (length s)
      go true q i = less at d (leb-true (length s) d q) (field-unbroken st s 0 0 at a d r)
      go false q i = second at a d (field-unbroken st s 0 0 at a d r) (further_at st s (unit st a) 0 d) refl i

pub format-unbroken : (st : Stamp) (s : List ℕ) (at v e : ℕ) → format_field st s at ≡ Ok (v, e) → Unbroken s at (length s)
unfolding format_at
format-unbroken st s at v e h = let r = format_read st s at v e h in first st s r.found at (field_at st s 0 0 at) refl r.reads
