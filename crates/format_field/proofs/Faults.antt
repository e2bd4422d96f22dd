-- A format in a line and in the line with more: where it ends or goes wrong, that a fault before the end stays, and that a line that ends too soon can be mended.
use Rattle.std.specs.Prelude.{Result, Ok, Err}
use mathlib.Core.Path.{◌≡◌, refl, sym, ap, ◌∙◌}
use mathlib.Core.Bool.{cond}
use mathlib.Core.List.{List, ◌++◌}
use Prim.Native.Nat.{ℕ, ◌≤◌, ◌<◌}
use native.Mathlib.Omega.{arith}
use native.Mathlib.Decide.{dec_le}
use lib.ListN.{length, get_or, length-append}
use lib.Dec.{leb}
use borrow.Author.Tests.{le-leb, lt-leb}
use Rattle.formats.specs.declared.Format.{Format}
use Rattle.formats.specs.declared.Stamp.{Stamp}
use Rattle.formats.specs.Formats.{format, unit}
use Rattle.format_field.specs.Reading.{field_at, further_at, with_third, with_second, with_first, format_at}
use Rattle.format_field.proofs.Spots.{Spots, field-spots, further-spots}

-- what makes a format whole that ends too soon
pub record FoundRest (F : List ℕ → Result Format ℕ) (s : List ℕ) : Type 0 where
  pub tail : List ℕ
  pub found : Format
  pub whole : F (s ++ tail) ≡ Ok found

-- what is asked of the reading of a format, or of its rest from a place on
pub record Founds (F : List ℕ → Result Format ℕ) (s : List ℕ) (at : ℕ) : Type 0 where
  pub some : (f : Format) → F s ≡ Ok f → at < length s
  pub fault : (p : ℕ) → F s ≡ Err p → (at ≤ p) × (p ≤ length s)
  pub firm : (m : List ℕ) (p : ℕ) → F s ≡ Err p → p < length s → F (s ++ m) ≡ Err p
  pub rest : F s ≡ Err (length s) → FoundRest F s

-- ---- a field, and the rest behind it

-- a format that ends with the field, or goes on
abbrev stage : (ℕ → Format) → (ℕ → ℕ → Result Format ℕ) → List ℕ → Result (ℕ × ℕ) ℕ → Result Format ℕ
stage g k t (Ok (x, e)) = cond (leb (length t) e) (Ok (g x)) (k x e)
stage g k t (Err p) = Err p

module _ (F : List ℕ → Result Format ℕ) (R : List ℕ → Result (ℕ × ℕ) ℕ) (g : List ℕ → ℕ → Format) (k : List ℕ → ℕ → ℕ → Result Format ℕ) (same : (t : List ℕ) → F t ≡ stage (g t) (k t) t (R t)) where
  -- the field ends with the line
  last-field : (t : List ℕ) (x e : ℕ) → R t ≡ Ok (x, e) → length t ≤ e → F t ≡ Ok (g t x)
  last-field t x e q h = same t ∙ rw (q, le-leb (length t) e h)

  -- more bytes follow it
  more-field : (t : List ℕ) (x e : ℕ) → R t ≡ Ok (x, e) → e < length t → F t ≡ k t x e
  more-field t x e q h = same t ∙ rw (q, lt-leb (length t) e h)

  no_field : (t : List ℕ) (p : ℕ) → R t ≡ Err p → F t ≡ Err p
  no_field t p q = same t ∙ rw q

  module _ (s : List ℕ) (at : ℕ) (r : Spots R s at) (next : (x e : ℕ) → R s ≡ Ok (x, e) → e < length s → Founds (λ t. k t x e) s e) where
    ended : (x e : ℕ) → R s ≡ Ok (x, e) → length s ≤ e → Founds F s at
    ended x e q h =
        let w = last-field s x e q h in
        let z = r.letters x e q in
        record {
          some = λ f i. omega arith;
          fault = λ p i. absurd (let y : ◌≡◌ {A = ℕ} 0 1 = cc in omega arith);
          firm = λ m p i j. absurd (let y : ◌≡◌ {A = ℕ} 0 1 = cc in omega arith);
          rest = λ i. absurd (let y : ◌≡◌ {A = ℕ} 0 1 = cc in omega arith);
        }

    goes_on : (x e : ℕ) → R s ≡ Ok (x, e) → e < length s → Founds F s at
    goes_on x e q h =
        let w = more-field s x e q h in
        let z = r.letters x e q in
        let n = next x e q h in
        let far : (m : List ℕ) → e < length (s ++ m) = (λ m. let y = length-append s m in omega arith) in
        let later : (m : List ℕ) → F (s ++ m) ≡ k (s ++ m) x e = (λ m. more-field (s ++ m) x e (r.stays m x e q) (far m)) in
        record {
          some = λ f i. omega arith;
          fault = λ p i. let y = n.fault p (sym w ∙ i) in (omega arith, y.1);
          firm = λ m p i j. later m ∙ n.firm m p (sym w ∙ i) j;
          rest = λ i. let y = n.rest (sym w ∙ i) in record { tail = y.tail; found = y.found; whole = later y.tail ∙ y.whole };
        }

    faulty : (p : ℕ) → R s ≡ Err p → Founds F s at
    faulty p q =
        let w = no_field s p q in
        let z = r.fault p q in
        record {
          some = λ f i. absurd (let y : ◌≡◌ {A = ℕ} 0 1 = cc in omega arith);
          fault = λ i j. let y : p ≡ i = cc in (omega arith, omega arith);
          firm = λ m i j l. let y : p ≡ i = cc in no_field (s ++ m) i (r.firm m i (q ∙ ap Err y) l);
          rest = λ i.
              let y : p ≡ length s = cc in
              let x = r.rest (q ∙ ap Err y) in
              record { tail = x.tail; found = g (s ++ x.tail) x.field; whole = last-field (s ++ x.tail) x.field (length (s ++ x.tail)) x.whole (omega arith) };
        }

    staged : Founds F s at
    staged = go (R s) refl
      where
        go : (t : Result (ℕ × ℕ) ℕ) → R s ≡ t → Founds F s at
        go (Ok (x, e)) q = elim (dec_le (length s) e) [
          | yes h ↦ ended x e q h
          | no h ↦ goes_on x e q (omega arith)
        ]
        go (Err p) q = faulty p q

-- ---- the three fields

-- bytes past the third field
over : (s : List ℕ) (n : ℕ) → n < length s → Founds (λ t. Err n) s n
over s n h = record {
  some = λ f i. absurd (let y : ◌≡◌ {A = ℕ} 0 1 = cc in omega arith);
  fault = λ p i. let y : n ≡ p = cc in (omega arith, omega arith);
  firm = λ m p i j. i;
  rest = λ i. absurd (let y : n ≡ length s = cc in omega arith);
}

module _ (st : Stamp) (s : List ℕ) where
  third : (a d b e : ℕ) → e < length s → Founds (λ t. with_third t a d b e (further_at st t (unit st a) (unit st b) e)) s e
  third a d b e h =
      staged (λ t. with_third t a d b e (further_at st t (unit st a) (unit st b) e)) (λ t. further_at st t (unit st a) (unit st b) e)
      (λ t c. format a (get_or t d 0) b (get_or t e 0) c)
      (λ t c n. Err n)
      (λ t. same t (further_at st t (unit st a) (unit st b) e))
      s
      e
      (further-spots st s (unit st a) (unit st b) e h)
      (λ x n q k. over s n k)
    where
      same : (t : List ℕ) (r : Result (ℕ × ℕ) ℕ) → with_third t a d b e r ≡ stage (λ c. format a (get_or t d 0) b (get_or t e 0) c) (λ c n. Err n) t r
      same t (Ok (x, n)) = refl
      same t (Err p) = refl

  second : (a d : ℕ) → d < length s → Founds (λ t. with_second st t a d (further_at st t (unit st a) 0 d)) s d
  second a d h =
      staged (λ t. with_second st t a d (further_at st t (unit st a) 0 d)) (λ t. further_at st t (unit st a) 0 d)
      (λ t b. format a (get_or t d 0) b 0 0)
      (λ t b e. with_third t a d b e (further_at st t (unit st a) (unit st b) e))
      (λ t. same t (further_at st t (unit st a) 0 d))
      s
      d
      (further-spots st s (unit st a) 0 d h)
      (λ b e q k. third a d b e k)
    where
      same : (t : List ℕ) (r : Result (ℕ × ℕ) ℕ)
          → with_second st t a d r ≡ stage (λ b. format a (get_or t d 0) b 0 0) (λ b e. with_third t a d b e (further_at st t (unit st a) (unit st b) e)) t r
      same t (Ok (x, n)) = refl
      same t (Err p) = refl

  -- what is asked of a format holds
  pub founds : (at : ℕ) → at ≤ length s → Founds (λ t. format_at st t at) s at
  unfolding format_at
  founds at h =
      staged (λ t. with_first st t (field_at st t 0 0 at)) (λ t. field_at st t 0 0 at)
      (λ t a. format a 0 0 0 0)
      (λ t a d. with_second st t a d (further_at st t (unit st a) 0 d))
      (λ t. same t (field_at st t 0 0 at))
      s
      at
      (field-spots st s 0 0 at h)
      (λ a d q k. second a d k)
    where
      same : (t : List ℕ) (r : Result (ℕ × ℕ) ℕ) → with_first st t r ≡ stage (λ a. format a 0 0 0 0) (λ a d. with_second st t a d (further_at st t (unit st a) 0 d)) t r
      same t (Ok (x, n)) = refl
      same t (Err p) = refl
