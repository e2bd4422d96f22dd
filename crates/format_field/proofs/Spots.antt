-- One field of a format, at a place of a line and in the line with more: where it ends or goes wrong, and what stays.
use Rattle.std.specs.Prelude.{Result, Ok, Err}
use mathlib.Core.Path.{◌≡◌, refl, sym, ap, ◌∙◌}
use mathlib.Core.Bool.{Bool, true, false, cond}
use mathlib.Core.List.{List, [], ◌++◌, append-nil}
use Prim.Native.Nat.{ℕ, ◌+◌, ◌≤◌, ◌<◌}
use native.Mathlib.Omega.{arith}
use native.Mathlib.Decide.{dec_le, dec_lt}
use lib.ListN.{length, get_or, length-append, get_or-append}
use Rattle.formats.specs.declared.Stamp.{Stamp}
use Rattle.formats.specs.declared.Stamp.TheVariants.{Date, Time}
use Rattle.formats.specs.Formats.{unit, new_unit, separator}
use Rattle.format_field.specs.Reading.{unit_of, width, field_of, cut_at, spot_of, field_at, further_at}
use Rattle.fields.proofs.Pairs.{ok_second}
use Rattle.format_field.proofs.Steps.{width-range, field_cut, field-whole}
use Rattle.format_field.proofs.Spare.{SpotRest, field-fills, date-unlike, date-finished}

-- what is asked of the reading of a field: letters end within the line and stay; a fault lies within it, and before its end it stays; at its end it can be mended
pub record Spots (R : List ℕ → Result (ℕ × ℕ) ℕ) (s : List ℕ) (at : ℕ) : Type 0 where
  pub letters : (x e : ℕ) → R s ≡ Ok (x, e) → (at < e) × (e ≤ length s)
  pub stays : (m : List ℕ) (x e : ℕ) → R s ≡ Ok (x, e) → R (s ++ m) ≡ Ok (x, e)
  pub fault : (p : ℕ) → R s ≡ Err p → (at ≤ p) × (p ≤ length s)
  pub firm : (m : List ℕ) (p : ℕ) → R s ≡ Err p → p < length s → R (s ++ m) ≡ Err p
  pub rest : R s ≡ Err (length s) → SpotRest R s

-- ---- the three ways it can be

module _ (R : List ℕ → Result (ℕ × ℕ) ℕ) (s : List ℕ) (at : ℕ) where
  -- the letters are there, whatever follows
  spots-letters : (x e : ℕ) → at < e → e ≤ length s → ((m : List ℕ) → R (s ++ m) ≡ Ok (x, e)) → Spots R s at
  spots-letters x e l h f =
      let q : R s ≡ Ok (x, e) = rw append-nil at (f []) in
      record {
        letters = λ y i k. let z : e ≡ i = ok_second (sym q ∙ k) in (omega arith, omega arith);
        stays = λ m y i k. f m ∙ (sym q ∙ k);
        fault = λ p k. absurd (let z : ◌≡◌ {A = ℕ} 0 1 = cc in omega arith);
        firm = λ m p k j. absurd (let z : ◌≡◌ {A = ℕ} 0 1 = cc in omega arith);
        rest = λ k. absurd (let z : ◌≡◌ {A = ℕ} 0 1 = cc in omega arith);
      }

  -- it goes wrong before the end, whatever follows
  spots-fault : (p : ℕ) → at ≤ p → p < length s → ((m : List ℕ) → R (s ++ m) ≡ Err p) → Spots R s at
  spots-fault p l h f =
      let q : R s ≡ Err p = rw append-nil at (f []) in
      record {
        letters = λ y i k. absurd (let z : ◌≡◌ {A = ℕ} 0 1 = cc in omega arith);
        stays = λ m y i k. absurd (let z : ◌≡◌ {A = ℕ} 0 1 = cc in omega arith);
        fault = λ i k. let z : p ≡ i = cc in (omega arith, omega arith);
        firm = λ m i k j. f m ∙ (sym q ∙ k);
        rest = λ k. absurd (let z : p ≡ length s = cc in omega arith);
      }

  -- the line ends too soon
  spots-cut : at ≤ length s → R s ≡ Err (length s) → SpotRest R s → Spots R s at
  spots-cut l q r =
      record {
        letters = λ y i k. absurd (let z : ◌≡◌ {A = ℕ} 0 1 = cc in omega arith);
        stays = λ m y i k. absurd (let z : ◌≡◌ {A = ℕ} 0 1 = cc in omega arith);
        fault = λ i k. let z : length s ≡ i = cc in (omega arith, omega arith);
        firm = λ m i k j. absurd (let z : length s ≡ i = cc in omega arith);
        rest = λ k. r;
      }

-- ---- a field

kept-spot : (st : Stamp) (s m : List ℕ) (at : ℕ) → at + width st ≤ length s
    → field_of st (get_or (s ++ m) at 0) (get_or (s ++ m) (at + 1) 0) ≡ field_of st (get_or s at 0) (get_or s (at + 1) 0)
kept-spot Date s m at h = rw (get_or-append s m 0 at (omega arith), get_or-append s m 0 (at + 1) (omega arith))
kept-spot Time s m at h = rw (get_or-append s m 0 at (omega arith))

module _ (st : Stamp) (s : List ℕ) (u v at : ℕ) where
  -- its bytes are there
  whole-spots : at + width st ≤ length s → Spots (λ t. field_at st t u v at) s at
  whole-spots h = go (new_unit u v (unit st x)) refl
    where
      x : ℕ
      x = field_of st (get_or s at 0) (get_or s (at + 1) 0)

      same : (m : List ℕ) → field_at st (s ++ m) u v at ≡ spot_of st u v at (field_of st (get_or s at 0) (get_or s (at + 1) 0))
      same m =
          let n = length-append s m in
          field-whole st (s ++ m) u v at (omega arith) ∙ ap (spot_of st u v at) (kept-spot st s m at h)

      go : (b : Bool) → new_unit u v (unit st (field_of st (get_or s at 0) (get_or s (at + 1) 0))) ≡ b → Spots (λ t. field_at st t u v at) s at
      go true e =
          let w = (width-range st).0 in
          spots-letters (λ t. field_at st t u v at) s at (field_of st (get_or s at 0) (get_or s (at + 1) 0)) (at + width st) (omega arith) h (λ m. same m ∙ rw e)
      go false e =
          let w = (width-range st).0 in
          spots-fault (λ t. field_at st t u v at) s at at (omega arith) (omega arith) (λ m. same m ∙ rw e)

  -- none of them is
  none-spots : at ≡ length s → Spots (λ t. field_at st t u v at) s at
  none-spots h =
      let w = (width-range st).0 in
      spots-cut (λ t. field_at st t u v at) s at (omega arith) (field_cut st s u v at (omega arith) ∙ ap Err cut) (rw h (field-fills s u v st))
    where
      pick : (b : Bool) (n i : ℕ) → i ≡ n → cond b n i ≡ n
      pick true n i e = refl
      pick false n i e = e

      cut : cut_at s u v at ≡ length s
      cut = unfold cut_at in pick (new_unit u v (unit_of (get_or s at 0))) (length s) at h

-- a date's first byte is
half-spots : (s : List ℕ) (u v at : ℕ) → length s ≡ at + 1 → Spots (λ t. field_at Date t u v at) s at
half-spots s u v at h = go (new_unit u v (unit_of (get_or s at 0))) refl
  where
    unlike : new_unit u v (unit_of (get_or s at 0)) ≡ false → (m : List ℕ) → field_at Date (s ++ m) u v at ≡ Err at
    unlike e m = pick (dec_le (at + 2) (length (s ++ m)))
      where
        a : get_or (s ++ m) at 0 ≡ get_or s at 0
        a = get_or-append s m 0 at (omega arith)

        pick : Dec (at + 2 ≤ length (s ++ m)) → field_at Date (s ++ m) u v at ≡ Err at
        pick (yes k) = field-whole Date (s ++ m) u v at k ∙ rw (a, date-unlike u v (get_or s at 0) (get_or (s ++ m) (at + 1) 0) e)
        pick (no k) = field_cut Date (s ++ m) u v at (omega arith) ∙ ap Err (unfold cut_at in rw (a, e))

    go : (b : Bool) → new_unit u v (unit_of (get_or s at 0)) ≡ b → Spots (λ t. field_at Date t u v at) s at
    go true e =
        spots-cut (λ t. field_at Date t u v at) s at (omega arith) (field_cut Date s u v at (omega arith) ∙ ap Err (unfold cut_at in rw e)) (date-finished s u v at h e)
    go false e = spots-fault (λ t. field_at Date t u v at) s at at (omega arith) (omega arith) (unlike e)

-- a field at a place of the line
pub field-spots : (st : Stamp) (s : List ℕ) (u v at : ℕ) → at ≤ length s → Spots (λ t. field_at st t u v at) s at
field-spots st s u v at h = pick st (dec_le (at + width st) (length s)) (dec_lt at (length s))
  where
    pick : (st : Stamp) → Dec (at + width st ≤ length s) → Dec (at < length s) → Spots (λ t. field_at st t u v at) s at
    pick st (yes k) l = whole-spots st s u v at k
    pick Date (no k) (yes l) = half-spots s u v at (omega arith)
    pick Time (no k) (yes l) = absurd (omega arith)
    pick st (no k) (no l) = none-spots st s u v at (omega arith)

-- ---- a separator and a field

further-as : (st : Stamp) (t : List ℕ) (u v at : ℕ) (b : Bool) → separator (get_or t at 0) ≡ b → further_at st t u v at ≡ cond b (field_at st t u v (at + 1)) (Err at)
unfolding further_at
further-as st t u v at b e = rw e

-- what reads as another, in this line and with more, from a place further on
spots-as : (R Q : List ℕ → Result (ℕ × ℕ) ℕ) (s : List ℕ) (at i : ℕ) → at ≤ i → ((m : List ℕ) → R (s ++ m) ≡ Q (s ++ m)) → Spots Q s i → Spots R s at
spots-as R Q s at i l f g =
    let q : R s ≡ Q s = rw append-nil at (f []) in
    record {
      letters = λ x e k. let z = g.letters x e (sym q ∙ k) in (omega arith, z.1);
      stays = λ m x e k. f m ∙ g.stays m x e (sym q ∙ k);
      fault = λ p k. let z = g.fault p (sym q ∙ k) in (omega arith, z.1);
      firm = λ m p k j. f m ∙ g.firm m p (sym q ∙ k) j;
      rest = λ k. let r = g.rest (sym q ∙ k) in record { tail = r.tail; field = r.field; whole = f r.tail ∙ r.whole };
    }

-- a separator and a field at a place before the end
pub further-spots : (st : Stamp) (s : List ℕ) (u v at : ℕ) → at < length s → Spots (λ t. further_at st t u v at) s at
further-spots st s u v at h = go (separator (get_or s at 0)) refl
  where
    kept : (b : Bool) → separator (get_or s at 0) ≡ b → (m : List ℕ) → separator (get_or (s ++ m) at 0) ≡ b
    kept b e m = rw (get_or-append s m 0 at h) e

    go : (b : Bool) → separator (get_or s at 0) ≡ b → Spots (λ t. further_at st t u v at) s at
    go true e =
        spots-as (λ t. further_at st t u v at) (λ t. field_at st t u v (at + 1)) s at (at + 1) (omega arith) (λ m. further-as st (s ++ m) u v at true (kept true e m))
        (field-spots st s u v (at + 1) (omega arith))
    go false e = spots-fault (λ t. further_at st t u v at) s at at (omega arith) h (λ m. further-as st (s ++ m) u v at false (kept false e m))
