-- The elements of data in a line to which more is added.
use Rattle.std.specs.Prelude.{Result, Ok, Err}
use mathlib.Core.Path.{◌≡◌, ◌∙◌, refl, sym, ap}
use mathlib.Core.Bool.{Bool, true, false, false≢true}
use mathlib.Core.List.{List, [], ◌∷◌, ◌++◌, append-nil}
use Prim.Native.Nat.{ℕ, ◌+◌, ◌-◌, ◌≤◌, ◌<◌}
use Prim.Native.Char.{code}
use native.Mathlib.Omega.{arith}
use native.Mathlib.Decide.{ℕ_discrete, dec_lt}
use lib.ListN.{length, get_or, length-append, get_or-append}
use lib.Seq.{get_or-append_seam}
use borrow.Author.Tests.{lt-ltb, le-ltb, ne_eqb}
use Rattle.kinds.specs.Bytes.{between}
use Rattle.classes.proofs.Laws.{past}
use Rattle.fields.specs.Field.{pointed, text_at}
use Rattle.fields.proofs.Laws.{text-ends}
use Rattle.elements.specs.Elements.{modifier_at, quoted_from, held_from, modified, held_at, stamped_from, stamped_at, element_at, after}
use Rattle.elements.specs.declared.Part.TheVariants.{Whole}
use Rattle.elements.specs.declared.What.TheVariants.{Text, Stamped}
use Rattle.formats.specs.declared.Stamp.{Stamp}
use Rattle.formats.specs.declared.Stamp.TheVariants.{Date, Time}
use Rattle.elements.specs.declared.Element.{Element}
use Rattle.pointing.proofs.Runs.{longer, byte-kept, byte-other}
use Rattle.pointing.proofs.Pieces.{Sits, nothing}
use Rattle.pointing.proofs.Texts.{text-sits, text-firm, text-rest}
use Rattle.pointing.proofs.Modifiers.{Modifies, modifier-modifies, modifier-none}
use Rattle.elements.specs.declared.Part.{Part}

-- ---- elements

-- where an element ends, or goes wrong
abbrev pub step_stop : Result Element ℕ → ℕ
step_stop (Ok e) = after e
step_stop (Err p) = p

-- what makes an element whole that ends too soon
pub record StepRest (F : List ℕ → Result Element ℕ) (s : List ℕ) : Type 0 where
  pub tail : List ℕ
  pub element : Element
  pub whole : F (s ++ tail) ≡ Ok element
  pub ends : after element ≡ length s + length tail

-- an element in a line, as `Modifies` says of a modifier
pub record Steps (s : List ℕ) (at : ℕ) (F : List ℕ → Result Element ℕ) : Type 0 where
  pub low : at ≤ step_stop (F s)
  pub high : step_stop (F s) ≤ length s
  pub firm : (m : List ℕ) → step_stop (F s) < length s → F (s ++ m) ≡ F s
  pub rest : F s ≡ Err (length s) → StepRest F s

-- what reads as another element, in this line and with more
steps-as : (s : List ℕ) (at : ℕ) (F G : List ℕ → Result Element ℕ) → ((m : List ℕ) → F (s ++ m) ≡ G (s ++ m)) → Steps s at G → Steps s at F
steps-as s at F G f g =
    let e : F s ≡ G s = rw append-nil at (f []) in
    record {
      low = rw e g.low;
      high = rw e g.high;
      firm = λ m k. f m ∙ g.firm m (rw e at k) ∙ sym e;
      rest = λ k. let r = g.rest (sym e ∙ k) in record { tail = r.tail; element = r.element; whole = f r.tail ∙ r.whole; ends = r.ends };
    }

no_digit : between (code "0") (code "9") 0 ≡ true → ⊥
unfolding between
no_digit e = false≢true e

module _ (s : List ℕ) (at : ℕ) (h : at < length s) where
  -- a quoted text
  quoted-steps : Steps s at (λ t. quoted_from at (text_at t at))
  quoted-steps = go (text_at s at) refl (text-sits s at (omega arith))
    where
      go : (x : Result (ℕ × ℕ) ℕ) → text_at s at ≡ x → Sits s at x → Steps s at (λ t. quoted_from at (text_at t at))
      go (Ok (n, e)) q k =
          let i = text-ends s at n e q in
          record {
            low = rw q (omega arith);
            high = rw q i.1;
            firm = λ m l. ap (quoted_from at) (text-firm s m at (omega arith) (let z : at + (n + 2) < length s = rw q at l in rw q (omega arith)));
            rest = λ y. absurd (let z : Ok (record { what = Text; at = at; length = n + 2 }) ≡ Err (length s) = rw q at y in let w : ◌≡◌ {A = ℕ} 0 1 = cc in omega arith);
          }
      go (Err p) q k =
          record {
            low = rw q k.0;
            high = rw q k.1;
            firm = λ m l. ap (quoted_from at) (text-firm s m at (omega arith) (let z : p < length s = rw q at l in rw q z));
            rest = λ y.
                let z : Err p ≡ Err (length s) = rw q at y in
                let w : p ≡ length s = cc in
                let r = text-rest s at h (rw w at q) in
                let t = rw append-nil at (r.whole [] nothing) in
                let i = text-ends (s ++ r.tail) at r.value (length s + length r.tail) t in
                record { tail = r.tail; element = record { what = Text; at = at; length = r.value + 2 }; whole = rw t; ends = omega arith };
          }

  -- after `V` or `C`
  held-digit : (counter : Bool) (t : List ℕ) → between (code "0") (code "9") (get_or t (at + 1) 0) ≡ true
      → held_at counter t at ≡ modified counter (get_or t (at + 1) 0) t at (modifier_at t (at + 2))
  unfolding held_at
  held-digit counter t e = rw e

  -- no digit follows the letter
  pub held-other : (counter : Bool) (t : List ℕ) → between (code "0") (code "9") (get_or t (at + 1) 0) ≡ false → held_at counter t at ≡ Err (pointed t at (at + 1))
  unfolding held_at
  held-other counter t e = rw e

  digit-steps : (counter : Bool) → at + 1 < length s → between (code "0") (code "9") (get_or s (at + 1) 0) ≡ true → Steps s at (λ t. held_at counter t at)
  digit-steps counter i d =
      steps-as s at (λ t. held_at counter t at) (λ t. modified counter (get_or s (at + 1) 0) t at (modifier_at t (at + 2))) same (go (modifier_at s (at + 2)) refl)
    where
      same : (m : List ℕ) → held_at counter (s ++ m) at ≡ modified counter (get_or s (at + 1) 0) (s ++ m) at (modifier_at (s ++ m) (at + 2))
      same m = let g = get_or-append s m 0 (at + 1) i in held-digit counter (s ++ m) (rw g d) ∙ rw g

      a : Modifies s (at + 2) (λ t. modifier_at t (at + 2))
      a = modifier-modifies s (at + 2) (omega arith)

      go : (x : Result (Part × ℕ) ℕ) → modifier_at s (at + 2) ≡ x → Steps s at (λ t. modified counter (get_or s (at + 1) 0) t at (modifier_at t (at + 2)))
      go (Ok (p, e)) q =
          let l : at + 2 ≤ e = rw q at a.low in
          let k : e ≤ length s = rw q at a.high in
          record {
            low = rw q (omega arith);
            high = rw q (omega arith);
            firm = λ m z. let y = rw q at z in rw (a.firm m (rw q (omega arith)), q);
            rest = λ z. absurd (let y = rw q at z in let w : ◌≡◌ {A = ℕ} 0 1 = cc in omega arith);
          }
      go (Err p) q = pick (dec_lt p (length s))
        where
          k : p ≤ length s
          k = rw q at a.high

          pick : Dec (p < length s) → Steps s at (λ t. modified counter (get_or s (at + 1) 0) t at (modifier_at t (at + 2)))
          pick (yes l) =
              record {
                low = rw (q, lt-ltb p (length s) l) (omega arith);
                high = rw (q, lt-ltb p (length s) l) (omega arith);
                firm = λ m z. rw (a.firm m (rw q l), q, lt-ltb p (length s) l, lt-ltb p (length (s ++ m)) (longer s m p l));
                rest = λ z. absurd (let y : Err at ≡ Err (length s) = rw (q, lt-ltb p (length s) l) at z in let w : at ≡ length s = cc in omega arith);
              }
          pick (no l) =
              record {
                low = rw (q, le-ltb p (length s) (omega arith)) (omega arith);
                high = rw (q, le-ltb p (length s) (omega arith)) k;
                firm = λ m z. absurd (let y = rw (q, le-ltb p (length s) (omega arith)) at z in omega arith);
                rest = λ z.
                    let r = a.rest p q (omega (arith, k)) in
                    record {
                      tail = r.tail;
                      element = record { what = held_from counter (get_or s (at + 1) 0) r.part; at = at; length = length s + length r.tail - at };
                      whole = rw r.whole;
                      ends = omega arith;
                    };
              }

  held_steps : (counter : Bool) → Steps s at (λ t. held_at counter t at)
  held_steps counter = go (between (code "0") (code "9") (get_or s (at + 1) 0)) refl (dec_lt (at + 1) (length s))
    where
      one : at + 1 ≡ length s → held_at counter (s ++ (code "1" ∷ [])) at ≡ Ok (record { what = held_from counter (code "1") Whole; at = at; length = at + 2 - at })
      one l =
          let t : List ℕ = s ++ (code "1" ∷ []) in
          let g : get_or t (at + 1) 0 ≡ code "1" = rw l (get_or-append_seam s (code "1") [] 0) in
          let z : get_or t (at + 2) 0 ≡ 0 = past t (at + 2) (simp length-append (omega arith)) in
          let n = modifier-none t (at + 2) (λ q. omega arith) (λ q. omega arith) (λ q. omega arith) in
          held-digit counter t (rw g (unfold between in refl)) ∙ rw (n, g)

      go : (b : Bool) → between (code "0") (code "9") (get_or s (at + 1) 0) ≡ b → Dec (at + 1 < length s) → Steps s at (λ t. held_at counter t at)
      go true e (yes l) = digit-steps counter l e
      go true e (no l) = absurd (no_digit (rw (past s (at + 1) (omega arith)) at e))
      go false e (yes l) =
          let z : (m : List ℕ) → held_at counter (s ++ m) at ≡ Err at =
          (λ m. held-other counter (s ++ m) (rw (get_or-append s m 0 (at + 1) l) e) ∙ rw (lt-ltb (at + 1) (length (s ++ m)) (longer s m (at + 1) l))) in
          let y : held_at counter s at ≡ Err at = rw append-nil at (z []) in
          record {
            low = rw y (omega arith);
            high = rw y (omega arith);
            firm = λ m k. z m ∙ sym y;
            rest = λ k. absurd (let w : at ≡ length s = cc in omega arith);
          }
      go false e (no l) =
          let y : held_at counter s at ≡ Err (at + 1) = held-other counter s e ∙ rw (le-ltb (at + 1) (length s) (omega arith)) in
          record {
            low = rw y (omega arith);
            high = rw y (omega arith);
            firm = λ m k. absurd (let w = rw y at k in omega arith);
            rest = λ k.
                record {
                  tail = code "1" ∷ [];
                  element = record { what = held_from counter (code "1") Whole; at = at; length = at + 2 - at };
                  whole = one (omega arith);
                  ends = omega arith;
                };
          }

  -- after `T`
  stamped-date : (t : List ℕ) → get_or t (at + 1) 0 ≡ code "D" → stamped_at t at ≡ stamped_from at Date
  unfolding stamped_at
  stamped-date t e = rw e

  stamped-time : (t : List ℕ) → get_or t (at + 1) 0 ≡ code "T" → stamped_at t at ≡ stamped_from at Time
  unfolding stamped_at
  stamped-time t e = rw e

  stamped-other : (t : List ℕ) → (get_or t (at + 1) 0 ≡ code "D" → ⊥) → (get_or t (at + 1) 0 ≡ code "T" → ⊥) → stamped_at t at ≡ Err (pointed t at (at + 1))
  unfolding stamped_at
  stamped-other t a b = rw (ne_eqb (get_or t (at + 1) 0) (code "D") a, ne_eqb (get_or t (at + 1) 0) (code "T") b)

  stamped-steps : Steps s at (λ t. stamped_at t at)
  stamped-steps = go (dec_lt (at + 1) (length s)) (ℕ_discrete (get_or s (at + 1) 0) (code "D")) (ℕ_discrete (get_or s (at + 1) 0) (code "T"))
    where
      -- both letters stand there
      there : (st : Stamp) → at + 1 < length s → ((m : List ℕ) → stamped_at (s ++ m) at ≡ stamped_from at st) → Steps s at (λ t. stamped_at t at)
      there st l z =
          let y : stamped_at s at ≡ stamped_from at st = rw append-nil at (z []) in
          record {
            low = rw y (omega arith);
            high = rw y (omega arith);
            firm = λ m k. z m ∙ sym y;
            rest = λ k. absurd (let w : ◌≡◌ {A = ℕ} 0 1 = cc in omega arith);
          }

      go : Dec (at + 1 < length s) → Dec (get_or s (at + 1) 0 ≡ code "D") → Dec (get_or s (at + 1) 0 ≡ code "T") → Steps s at (λ t. stamped_at t at)
      go (yes l) (yes d) t = there Date l (λ m. stamped-date (s ++ m) (byte-kept s m (at + 1) l (code "D") d))
      go (yes l) (no d) (yes t) = there Time l (λ m. stamped-time (s ++ m) (byte-kept s m (at + 1) l (code "T") t))
      go (yes l) (no d) (no t) =
          let z : (m : List ℕ) → stamped_at (s ++ m) at ≡ Err at =
          (λ m. stamped-other (s ++ m) (byte-other s m (at + 1) l (code "D") d) (byte-other s m (at + 1) l (code "T") t) ∙ rw (lt-ltb (at + 1) (length (s ++ m)) (longer s m (at + 1) l))) in
          let y : stamped_at s at ≡ Err at = rw append-nil at (z []) in
          record {
            low = rw y (omega arith);
            high = rw y (omega arith);
            firm = λ m k. z m ∙ sym y;
            rest = λ k. absurd (let w : at ≡ length s = cc in omega arith);
          }
      go (no l) d t =
          let e = past s (at + 1) (omega arith) in
          let y : stamped_at s at ≡ Err (at + 1) = stamped-other s (λ q. omega arith) (λ q. omega arith) ∙ rw (le-ltb (at + 1) (length s) (omega arith)) in
          let n : at + 1 ≡ length s = omega arith in
          record {
            low = rw y (omega arith);
            high = rw y (omega arith);
            firm = λ m k. absurd (let w = rw y at k in omega arith);
            rest = λ k.
                record {
                  tail = code "D" ∷ [];
                  element = record { what = Stamped Date; at = at; length = 2 };
                  whole = stamped-date (s ++ (code "D" ∷ [])) (rw n (get_or-append_seam s (code "D") [] 0));
                  ends = omega arith;
                };
          }

module _ (t : List ℕ) (at : ℕ) where
  -- a quote starts a text
  pub element-text : get_or t at 0 ≡ code "\"" → element_at t at ≡ quoted_from at (text_at t at)
  unfolding element_at
  element-text h = rw h

  element-variable : get_or t at 0 ≡ code "V" → element_at t at ≡ held_at false t at
  unfolding element_at
  element-variable h = rw h

  -- a `C` starts a counter
  pub element-counter : get_or t at 0 ≡ code "C" → element_at t at ≡ held_at true t at
  unfolding element_at
  element-counter h = rw h

  element-stamped : get_or t at 0 ≡ code "T" → element_at t at ≡ stamped_at t at
  unfolding element_at
  element-stamped h = rw h

  -- no other byte starts an element
  pub element-none : (get_or t at 0 ≡ code "\"" → ⊥) → (get_or t at 0 ≡ code "V" → ⊥) → (get_or t at 0 ≡ code "C" → ⊥) → (get_or t at 0 ≡ code "T" → ⊥) → element_at t at ≡ Err at
  unfolding element_at
  element-none a b c d =
      rw (ne_eqb (get_or t at 0) (code "\"") a, ne_eqb (get_or t at 0) (code "V") b, ne_eqb (get_or t at 0) (code "C") c, ne_eqb (get_or t at 0) (code "T") d)

-- what is asked of an element holds of every element
pub element-steps : (s : List ℕ) (at : ℕ) → at < length s → Steps s at (λ t. element_at t at)
element-steps s at h =
    go (ℕ_discrete (get_or s at 0) (code "\"")) (ℕ_discrete (get_or s at 0) (code "V")) (ℕ_discrete (get_or s at 0) (code "C")) (ℕ_discrete (get_or s at 0) (code "T"))
  where
    go : Dec (get_or s at 0 ≡ code "\"") → Dec (get_or s at 0 ≡ code "V") → Dec (get_or s at 0 ≡ code "C") → Dec (get_or s at 0 ≡ code "T") → Steps s at (λ t. element_at t at)
    go (yes e) b c d = steps-as s at (λ t. element_at t at) (λ t. quoted_from at (text_at t at)) (λ m. element-text (s ++ m) at (byte-kept s m at h (code "\"") e)) (quoted-steps s at h)
    go (no a) (yes e) c d = steps-as s at (λ t. element_at t at) (λ t. held_at false t at) (λ m. element-variable (s ++ m) at (byte-kept s m at h (code "V") e)) (held_steps s at h false)
    go (no a) (no b) (yes e) d = steps-as s at (λ t. element_at t at) (λ t. held_at true t at) (λ m. element-counter (s ++ m) at (byte-kept s m at h (code "C") e)) (held_steps s at h true)
    go (no a) (no b) (no c) (yes e) = steps-as s at (λ t. element_at t at) (λ t. stamped_at t at) (λ m. element-stamped (s ++ m) at (byte-kept s m at h (code "T") e)) (stamped-steps s at h)
    go (no a) (no b) (no c) (no d) =
        let z : (m : List ℕ) → element_at (s ++ m) at ≡ Err at =
        (λ m. element-none (s ++ m) at (byte-other s m at h (code "\"") a) (byte-other s m at h (code "V") b) (byte-other s m at h (code "C") c) (byte-other s m at h (code "T") d)) in
        let y = element-none s at a b c d in
        record {
          low = rw y (omega arith);
          high = rw y (omega arith);
          firm = λ m k. z m ∙ sym y;
          rest = λ k. absurd (let w : at ≡ length s = cc in omega arith);
        }
