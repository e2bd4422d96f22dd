-- What is asked of the fields of a row, and that it holds of a row's first field and the others where it holds of the others.
use Rattle.std.specs.Prelude.{Result, Ok, Err}
use mathlib.Core.Path.{◌≡◌, ◌∙◌, refl, sym, ap}
use mathlib.Core.Bool.{Bool, true, false, cond}
use mathlib.Core.List.{List, [], ◌∷◌, ◌++◌, append_assoc, append-nil}
use Prim.Native.Nat.{ℕ, ◌+◌, ◌≤◌, ◌<◌}
use native.Mathlib.Omega.{arith}
use native.Mathlib.Decide.{dec_lt}
use lib.Dec.{eqb}
use lib.ListN.{length, length-append}
use borrow.Author.Tests.{eq-eqb, ne_eqb, eqb-false}
use Rattle.fields.specs.Field.{stop_of, byte_at}
use Rattle.reader.specs.Letters.{field_at}
use Rattle.row_fields.specs.Reading.{Got, good, bad, ahead, next, fields_from}
use Rattle.pointing.proofs.Runs.{longer}
use Rattle.pointing.proofs.Pieces.{Sits, Ended, nothing, comma, Last, Full}
use Rattle.pointing.proofs.Texts.{byte-piece, byte-stays, byte_one, byte-not}

-- ---- what reading a row comes to

-- the fields are there
abbrev pub Good : Got → Type 0
Good (good vs ps) = Unit {0}
Good (bad vs ps p) = ⊥

-- they are not, and p is at fault
abbrev pub Faulty : Got → ℕ → Type 0
Faulty (good vs ps) p = ⊥
Faulty (bad vs ps q) p = q ≡ p

good-ahead : (v at : ℕ) (g : Got) → Good g → Good (ahead v at g)
good-ahead v at (good vs ps) h = h
good-ahead v at (bad vs ps q) h = h

faulty-ahead : (v at p : ℕ) (g : Got) → Faulty g p → Faulty (ahead v at g) p
faulty-ahead v at p (good vs ps) h = h
faulty-ahead v at p (bad vs ps q) h = h

faulty-behind : (v at p : ℕ) (g : Got) → Faulty (ahead v at g) p → Faulty g p
faulty-behind v at p (good vs ps) h = h
faulty-behind v at p (bad vs ps q) h = h

-- the fault is the first field's, or lies behind it
pub data Where (f : ℕ) (fs s : List ℕ) (at p : ℕ) : Type 0 where
  here : field_at f s at ≡ Err p → Where f fs s at p
  later : (v e : ℕ) → field_at f s at ≡ Ok (v, e) → Faulty (fields_from fs s e) p → Where f fs s at p

module _ (f : ℕ) (fs s : List ℕ) (at : ℕ) where
  -- a fault of a row is the first field's or lies behind it
  pub where-of : (p : ℕ) → Faulty (fields_from (f ∷ fs) s at) p → Where f fs s at p
  unfolding fields_from
  where-of p h = go (field_at f s at) refl h
    where
      go : (x : Result (ℕ × ℕ) ℕ) → field_at f s at ≡ x → Faulty (next x (λ v e. ahead v at (fields_from fs s e))) p → Where f fs s at p
      go (Ok (v, e)) q k = later v e q (faulty-behind v at p (fields_from fs s e) k)
      go (Err i) q k = here (q ∙ ap Err k)

  faulty-here : (p : ℕ) → field_at f s at ≡ Err p → Faulty (fields_from (f ∷ fs) s at) p
  unfolding fields_from
  faulty-here p h = rw h refl

  faulty-later : (v e p : ℕ) → field_at f s at ≡ Ok (v, e) → Faulty (fields_from fs s e) p → Faulty (fields_from (f ∷ fs) s at) p
  unfolding fields_from
  faulty-later v e p h k = rw h (faulty-ahead v at p (fields_from fs s e) k)

  -- the first field is there, and the others are
  pub good-later : (v e : ℕ) → field_at f s at ≡ Ok (v, e) → Good (fields_from fs s e) → Good (fields_from (f ∷ fs) s at)
  unfolding fields_from
  good-later v e h k = rw h (good-ahead v at (fields_from fs s e) k)

-- ---- what is asked

-- what makes a line's fields whole that end too soon
pub record Finished (fs s : List ℕ) (at : ℕ) : Type 0 where
  pub more : List ℕ
  pub whole : Good (fields_from fs (s ++ more) at)

-- a fault lies within the line; before its end it is there whatever follows; the filler is a writing of the fields; and a line that is at fault at its end can
-- be made whole
pub record Points (fs filler : List ℕ) : Type 0 where
  pub within : (s : List ℕ) (at p : ℕ) → at ≤ length s → Faulty (fields_from fs s at) p → (at ≤ p) × (p ≤ length s)
  pub firm : (s m : List ℕ) (at p : ℕ) → at ≤ length s → Faulty (fields_from fs s at) p → p < length s → Faulty (fields_from fs (s ++ m) at) p
  pub fills : (s : List ℕ) → Good (fields_from fs (s ++ filler) (length s))
  pub soon : (s : List ℕ) (at : ℕ) → at ≤ length s → Faulty (fields_from fs s at) (length s) → Finished fs s at

-- ---- no fields
pub none-fault : (s : List ℕ) (at p : ℕ) → Faulty (fields_from [] s at) p → (at ≡ p) × (at ≡ length s → ⊥)
unfolding fields_from
none-fault s at p h = go (eqb at (length s)) refl h
  where
    go : (t : Bool) → eqb at (length s) ≡ t → Faulty (cond t (good [] []) (bad [] [] at)) p → (at ≡ p) × (at ≡ length s → ⊥)
    go true e k = absurd k
    go false e k = (k, eqb-false at (length s) e)

none-firm : (s m : List ℕ) (at p : ℕ) → Faulty (fields_from [] s at) p → p < length s → Faulty (fields_from [] (s ++ m) at) p
unfolding fields_from
none-firm s m at p k l =
    let z = none-fault s at p k in
    let y = longer s m p l in
    rw (ne_eqb at (length (s ++ m)) (λ q. omega arith)) z.0

-- where a row has ended the line has
pub none-good : (s : List ℕ) → Good (fields_from [] s (length s))
unfolding fields_from
none-good s = rw (eq-eqb (length s) (length s) refl) tt

-- no fields point rightly
pub points_none : Points [] []
points_none =
    record {
      within = λ s at p h k. let z = none-fault s at p k in (omega arith, omega arith);
      firm = λ s m at p h k l. none-firm s m at p k l;
      fills = λ s. rw (append-nil s) (none-good s);
      soon = λ s at h k. absurd (let z = none-fault s at (length s) k in z.1 z.0);
    }

-- ---- a field and those behind it
module _ (f : ℕ) (fs filler : List ℕ) (P : Points fs filler) where
  -- a fault lies within the line
  pub sits-within : (s : List ℕ) (at p : ℕ) → Sits s at (field_at f s at) → Faulty (fields_from (f ∷ fs) s at) p → (at ≤ p) × (p ≤ length s)
  sits-within s at p h k = go (where-of f fs s at p k)
    where
      go : Where f fs s at p → (at ≤ p) × (p ≤ length s)
      go (here e) = let z : Sits s at (Err p) = rw e at h in z
      go (later v e q r) = let z : Sits s at (Ok (v, e)) = rw q at h in let y = P.within s e p z.1 r in (omega arith, y.1)

  -- a fault before the end is there whatever follows
  pub firm-within : (s m : List ℕ) (at p : ℕ) → Sits s at (field_at f s at) → (stop_of (field_at f s at) < length s → field_at f (s ++ m) at ≡ field_at f s at)
      → Faulty (fields_from (f ∷ fs) s at) p → p < length s → Faulty (fields_from (f ∷ fs) (s ++ m) at) p
  firm-within s m at p h c k l = go (where-of f fs s at p k)
    where
      go : Where f fs s at p → Faulty (fields_from (f ∷ fs) (s ++ m) at) p
      go (here e) = faulty-here f fs (s ++ m) at p (c (rw e l) ∙ e)
      go (later v e q r) =
          let z : Sits s at (Ok (v, e)) = rw q at h in
          let y = P.within s e p z.1 r in
          let i : e < length s = omega arith in
          faulty-later f fs (s ++ m) at v e p (c (rw q i) ∙ q) (P.firm s m e p z.1 r l)

  -- the field with a tail, and then the others' filler
  pub filled : (s tail : List ℕ) (at v : ℕ) → field_at f (s ++ (tail ++ filler)) at ≡ Ok (v, length s + length tail)
      → Good (fields_from (f ∷ fs) (s ++ (tail ++ filler)) at)
  filled s tail at v h =
      let g = rw (append_assoc s tail filler, length-append s tail) at (P.fills (s ++ tail)) in
      good-later f fs (s ++ (tail ++ filler)) at v (length s + length tail) h g

  -- the field stays, and the others are made whole
  pub go_on : (s : List ℕ) (at v e : ℕ) → e ≤ length s → Faulty (fields_from fs s e) (length s) → ((m : List ℕ) → field_at f (s ++ m) at ≡ Ok (v, e)) → Finished (f ∷ fs) s at
  go_on s at v e h k c =
      let r = P.soon s e h k in
      record { more = r.more; whole = good-later f fs (s ++ r.more) at v e (c r.more) r.whole }

-- a byte that stands for itself
pub points-byte : (f : ℕ) (fs filler : List ℕ) → ((s : List ℕ) (at : ℕ) → field_at f s at ≡ byte_at f s at) → Points fs filler → Points (f ∷ fs) (f ∷ filler)
points-byte f fs filler same P =
    record {
      within = λ s at p h k. sits-within f fs filler P s at p (rw (same s at) ((byte-piece f).sits s at h)) k;
      firm = λ s m at p h k l.
          firm-within f fs filler P s m at p (rw (same s at) ((byte-piece f).sits s at h)) (λ i. same (s ++ m) at ∙ (byte-piece f).firm s m at h (rw (same s at) at i) ∙ sym (same s at)) k l;
      fills = blank;
      soon = soon;
    }
  where
    blank : (s : List ℕ) → Good (fields_from (f ∷ fs) (s ++ (f ∷ filler)) (length s))
    blank s = filled f fs filler P s (f ∷ []) (length s) f (same (s ++ (f ∷ filler)) (length s) ∙ byte_one f s filler)

    soon : (s : List ℕ) (at : ℕ) → at ≤ length s → Faulty (fields_from (f ∷ fs) s at) (length s) → Finished (f ∷ fs) s at
    soon s at h k = go (where-of f fs s at (length s) k)
      where
        go : Where f fs s at (length s) → Finished (f ∷ fs) s at
        go (here e) = let z = byte-not f s at (length s) (sym (same s at) ∙ e) in record { more = f ∷ filler; whole = rw (← z) (blank s) }
        go (later v e q r) =
            let z : Sits s at (Ok (v, e)) = rw (← same s at, q) at ((byte-piece f).sits s at h) in
            let l : at < length s = omega arith in
            go_on f fs filler P s at v e z.1 r (λ m. same (s ++ m) at ∙ byte-stays f s m at l ∙ sym (same s at) ∙ q)

-- a field that a comma ends, where one follows it or nothing does
pub points-field : (f : ℕ) (fs filler : List ℕ) (F : Full (field_at f)) → Points fs filler → Ended filler → Points (f ∷ fs) (F.blank ++ filler)
points-field f fs filler F P x =
    record {
      within = λ s at p h k. sits-within f fs filler P s at p (F.piece.sits s at h) k;
      firm = λ s m at p h k l. firm-within f fs filler P s m at p (F.piece.sits s at h) (F.piece.firm s m at h) k l;
      fills = blank;
      soon = soon;
    }
  where
    blank : (s : List ℕ) → Good (fields_from (f ∷ fs) (s ++ (F.blank ++ filler)) (length s))
    blank s = filled f fs filler P s F.blank (length s) F.value (F.empty s filler x)

    -- it ends with the line
    ended : (s m : List ℕ) (at v : ℕ) → at ≤ length s → field_at f s at ≡ Ok (v, length s) → Ended m → field_at f (s ++ m) at ≡ Ok (v, length s)
    ended s m at v h e nothing = rw (append-nil s) e
    ended s m at v h e (comma l) = F.ends s l at v h e

    soon : (s : List ℕ) (at : ℕ) → at ≤ length s → Faulty (fields_from (f ∷ fs) s at) (length s) → Finished (f ∷ fs) s at
    soon s at h k = go (where-of f fs s at (length s) k) (dec_lt at (length s))
      where
        on : (v e : ℕ) → field_at f s at ≡ Ok (v, e) → Faulty (fields_from fs s e) (length s) → e ≤ length s → Dec (e < length s) → Finished (f ∷ fs) s at
        on v e q r i (yes l) = go_on f fs filler P s at v e i r (λ m. F.piece.firm s m at h (rw q l) ∙ q)
        on v e q r i (no l) =
            let n : e ≡ length s = omega arith in
            let c = ended s filler at v h (rw n at q) x in
            record { more = filler; whole = good-later f fs (s ++ filler) at v (length s) c (P.fills s) }

        go : Where f fs s at (length s) → Dec (at < length s) → Finished (f ∷ fs) s at
        go (here e) (yes l) =
            let r = F.rest s at l e in
            record { more = r.tail ++ filler; whole = filled f fs filler P s r.tail at r.value (r.whole filler x) }
        go (here e) (no l) = let z : at ≡ length s = omega arith in record { more = F.blank ++ filler; whole = rw z (blank s) }
        go (later v e q r) d = let z : Sits s at (Ok (v, e)) = rw q at (F.piece.sits s at h) in on v e q r z.1 (dec_lt e (length s))

-- a field that runs to the end of its line, at the end of a row
pub points-last : (f : ℕ) (filler : List ℕ) → Last (field_at f) filler → Points (f ∷ []) filler
points-last f filler F =
    record {
      within = λ s at p h k. sits-within f [] [] points_none s at p (F.piece.sits s at h) k;
      firm = λ s m at p h k l. firm-within f [] [] points_none s m at p (F.piece.sits s at h) (F.piece.firm s m at h) k l;
      fills = blank;
      soon = soon;
    }
  where
    blank : (s : List ℕ) → Good (fields_from (f ∷ []) (s ++ filler) (length s))
    blank s = rw (append-nil filler) at (filled f [] [] points_none s filler (length s) F.value (rw (append-nil filler) (F.empty s)))

    soon : (s : List ℕ) (at : ℕ) → at ≤ length s → Faulty (fields_from (f ∷ []) s at) (length s) → Finished (f ∷ []) s at
    soon s at h k = go (where-of f [] s at (length s) k)
      where
        go : Where f [] s at (length s) → Finished (f ∷ []) s at
        go (here e) =
            let r = F.rest s at h e in
            let t : List ℕ = s ++ r.tail in
            record { more = r.tail; whole = good-later f [] t at r.value (length t) r.whole (none-good t) }
        go (later v e q r) = absurd (let z = none-fault s e (length s) r in z.1 z.0)
