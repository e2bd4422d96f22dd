-- Laws on the fields of a row, and on what reading them leaves in two arrays.
use Rattle.std.specs.Prelude.{Result, Ok, Err}
use mathlib.Core.Path.{◌≡◌, ◌∙◌, refl, sym, ap}
use mathlib.Core.Bool.{Bool, true, false, cond}
use mathlib.Core.List.{List, [], ◌∷◌}
use Prim.Native.Nat.{ℕ, suc, ◌+◌, ◌≤◌, ◌<◌}
use native.Mathlib.Numerals.{add-one}
use native.Mathlib.Omega.{arith}
use lib.Dec.{eqb}
use lib.ListN.{length, get_or, set, drop, drop_of_length-le}
use lib.Seq.{drop-cons, sets}
use Rattle.reader.specs.Letters.{field_at}
use Rattle.row_fields.specs.Reading.{fields_from, Got, good, bad, next, ahead, Filled}

-- ---- the fields of a row, one at a time

-- what reading a row's first field and then the others gives
pub record Split (f : ℕ) (fs s : List ℕ) (at : ℕ) (ws qs : List ℕ) : Type 0 where
  pub v : ℕ
  pub e : ℕ
  pub vs : List ℕ
  pub ps : List ℕ
  pub first : field_at f s at ≡ Ok (v, e)
  pub others : fields_from fs s e ≡ good vs ps
  pub values : ws ≡ v ∷ vs
  pub places : qs ≡ at ∷ ps

pub fields_split : (f : ℕ) (fs s : List ℕ) (at : ℕ) (ws qs : List ℕ) → fields_from (f ∷ fs) s at ≡ good ws qs → Split f fs s at ws qs
unfolding fields_from
fields_split f fs s at ws qs h = go (field_at f s at) refl h
  where
    more : (v e : ℕ) (g : Got) → field_at f s at ≡ Ok (v, e) → fields_from fs s e ≡ g → ahead v at g ≡ good ws qs → Split f fs s at ws qs
    more v e (good vs ps) a b k = record { v = v; e = e; vs = vs; ps = ps; first = a; others = b; values = cc; places = cc }
    more v e (bad vs ps q) a b k = absurd (let z : ◌≡◌ {A = ℕ} 0 1 = cc in omega arith)

    go : (x : Result (ℕ × ℕ) ℕ) → field_at f s at ≡ x → next x (λ v e. ahead v at (fields_from fs s e)) ≡ good ws qs → Split f fs s at ws qs
    go (Ok (v, e)) a k = more v e (fields_from fs s e) a refl k
    go (Err p) a k = absurd (let z : ◌≡◌ {A = ℕ} 0 1 = cc in omega arith)

-- as many values and places as bytes
pub fields-count : (fs s : List ℕ) (at : ℕ) (ws qs : List ℕ) → fields_from fs s at ≡ good ws qs
    → (length ws ≡ length fs) × (length qs ≡ length fs)
fields-count [] s at ws qs h = go (eqb at (length s)) (unfold fields_from in h)
  where
    go : (t : Bool) → cond t (good [] []) (bad [] [] at) ≡ good ws qs → (length ws ≡ 0) × (length qs ≡ 0)
    go true k = (let e : [] ≡ ws = cc in rw (← e), let e : [] ≡ qs = cc in rw (← e))
    go false k = absurd (let z : ◌≡◌ {A = ℕ} 0 1 = cc in omega arith)
fields-count (f ∷ fs) s at ws qs h =
    let x = fields_split f fs s at ws qs h in
    let r = fields-count fs s x.e x.vs x.ps x.others in
    (rw x.values (ap suc r.0), rw x.places (ap suc r.1))

-- the same, stored into arrays from i on
abbrev pub onward : List ℕ → List ℕ → Result (ℕ × ℕ) ℕ → (ℕ → ℕ → Got) → Got
onward vs ps (Ok (v, e)) k = k v e
onward vs ps (Err p) k = bad vs ps p

unfoldable pub filled : List ℕ → List ℕ → ℕ → ℕ → List ℕ → List ℕ → Got
filled [] s at i vs ps = cond (eqb at (length s)) (good vs ps) (bad vs ps at)
filled (f ∷ fs) s at i vs ps = onward vs ps (field_at f s at) (λ v e. filled fs s e (suc i) (set vs i v) (set ps i at))

abbrev pub stored : ℕ → List ℕ → List ℕ → Got → Got
stored i vs ps (good ws qs) = good (sets vs i ws) (sets ps i qs)
stored i vs ps (bad ws qs q) = bad (sets vs i ws) (sets ps i qs) q

filled-stored : (fs s : List ℕ) (at i : ℕ) (vs ps : List ℕ) → filled fs s at i vs ps ≡ stored i vs ps (fields_from fs s at)
unfolding filled fields_from
filled-stored [] s at i vs ps = go (eqb at (length s))
  where
    go : (t : Bool) → cond t (good vs ps) (bad vs ps at) ≡ stored i vs ps (cond t (good [] []) (bad [] [] at))
    go true = refl
    go false = refl
filled-stored (f ∷ fs) s at i vs ps = go (field_at f s at) (λ v e. filled-stored fs s e (suc i) (set vs i v) (set ps i at))
  where
    more : (v : ℕ) (g : Got) → stored (suc i) (set vs i v) (set ps i at) g ≡ stored i vs ps (ahead v at g)
    more v (good ws qs) = refl
    more v (bad ws qs q) = refl

    go : (x : Result (ℕ × ℕ) ℕ)
        → ((v e : ℕ) → filled fs s e (suc i) (set vs i v) (set ps i at) ≡ stored (suc i) (set vs i v) (set ps i at) (fields_from fs s e))
        → onward vs ps x (λ v e. filled fs s e (suc i) (set vs i v) (set ps i at)) ≡ stored i vs ps (next x (λ v e. ahead v at (fields_from fs s e)))
    go (Ok (v, e)) r = r v e ∙ more v (fields_from fs s e)
    go (Err p) r = refl

-- a field more, a field that is not there, and no more fields
module _ (l s : List ℕ) (at i : ℕ) (vs ps : List ℕ) where
  pub filled_more : (v e : ℕ) → i < length l → field_at (get_or l i 32) s at ≡ Ok (v, e)
      → filled (drop i l) s at i vs ps ≡ filled (drop (i + 1) l) s e (i + 1) (set vs i v) (set ps i at)
  unfolding filled
  filled_more v e h k = rw (add-one, drop-cons l i 32 h, k)

  pub filled-stop : (p : ℕ) → i < length l → field_at (get_or l i 32) s at ≡ Err p → filled (drop i l) s at i vs ps ≡ bad vs ps p
  unfolding filled
  filled-stop p h k = rw (drop-cons l i 32 h, k)

  pub filled-done : length l ≤ i → filled (drop i l) s at i vs ps ≡ cond (eqb at (length s)) (good vs ps) (bad vs ps at)
  unfolding filled
  filled-done h = rw (drop_of_length-le l h)

-- what the arrays then hold
module _ (fs s : List ℕ) (vs₀ ps₀ vs ps : List ℕ) where
  from-good : (g : Got) → stored 0 vs₀ ps₀ g ≡ good vs ps → Filled g vs₀ ps₀ (Ok tt) vs ps
  from-good (good ws qs) h = (refl, cc, cc)
  from-good (bad ws qs q) h = absurd (let z : ◌≡◌ {A = ℕ} 0 1 = cc in omega arith)

  from-bad : (p : ℕ) (g : Got) → stored 0 vs₀ ps₀ g ≡ bad vs ps p → Filled g vs₀ ps₀ (Err p) vs ps
  from-bad p (good ws qs) h = absurd (let z : ◌≡◌ {A = ℕ} 0 1 = cc in omega arith)
  from-bad p (bad ws qs q) h = (let z : q ≡ p = cc in rw z, cc, cc)

  pub filled-good : filled fs s 0 0 vs₀ ps₀ ≡ good vs ps → Filled (fields_from fs s 0) vs₀ ps₀ (Ok tt) vs ps
  filled-good h = from-good (fields_from fs s 0) (sym (filled-stored fs s 0 0 vs₀ ps₀) ∙ h)

  pub filled-bad : (p : ℕ) → filled fs s 0 0 vs₀ ps₀ ≡ bad vs ps p → Filled (fields_from fs s 0) vs₀ ps₀ (Err p) vs ps
  filled-bad p h = from-bad p (fields_from fs s 0) (sym (filled-stored fs s 0 0 vs₀ ps₀) ∙ h)

-- what is not all is refused at a place
pub refused-at : (r : Result Unit ℕ) → (r ≡ Ok tt → ⊥) → (p : ℕ) × (r ≡ Err p)
refused-at (Ok u) n = absurd (n refl)
refused-at (Err p) n = (p, refl)
