-- Modifiers in a line to which more is added.
use Rattle.std.specs.Prelude.{Result, Ok, Err}
use mathlib.Core.Path.{◌≡◌, ◌∙◌, refl, sym, ap}
use mathlib.Core.List.{List, [], ◌∷◌, ◌++◌, append-nil, append_assoc}
use Prim.Native.Nat.{ℕ, ◌+◌, ◌≤◌, ◌<◌}
use Prim.Native.Char.{code}
use native.Mathlib.Omega.{arith}
use native.Mathlib.Decide.{ℕ_discrete}
use lib.ListN.{length, get_or, length-append}
use borrow.Author.Tests.{ne_eqb}
use Rattle.kinds.specs.Bytes.{between}
use Rattle.classes.proofs.Laws.{inside}
use Rattle.fields.specs.Field.{byte_at}
use Rattle.numbers.specs.Number.{number_at}
use Rattle.elements.specs.Elements.{first, last, middle, middle-dot, middle-n, modifier_at}
use Rattle.elements.specs.declared.Part.{Part}
use Rattle.elements.specs.declared.Part.TheVariants.{Whole, First, Last, Middle}
use Rattle.pointing.proofs.Runs.{byte-kept, byte-other}
use Rattle.pointing.proofs.Pieces.{Sits}
use Rattle.pointing.proofs.Numbers.{number-sits, number-firm, number-not, number-over, number-one}
use Rattle.pointing.proofs.Texts.{byte-sits, byte-stays, byte_one}

-- ---- `Ln`, `Rn` and `Mp.n`, behind the letter

-- where a modifier ends, or goes wrong
abbrev pub modifier_stop : Result (Part × ℕ) ℕ → ℕ
modifier_stop (Ok (p, e)) = e
modifier_stop (Err q) = q

-- what makes a modifier whole that ends too soon
pub record ModifierRest (F : List ℕ → Result (Part × ℕ) ℕ) (s : List ℕ) : Type 0 where
  pub tail : List ℕ
  pub part : Part
  pub whole : F (s ++ tail) ≡ Ok (part, length s + length tail)

-- what a modifier says of the number that it ends with
data Ends (at : ℕ) (f : Result (ℕ × ℕ) ℕ → Result (Part × ℕ) ℕ) : Type 0 where
  ends : (g : ℕ → Part) → ((n e : ℕ) → f (Ok (n, e)) ≡ Ok (g n, e)) → ((p : ℕ) → f (Err p) ≡ Err at) → Ends at f

-- a modifier in a line: it stops within the line; stays, where it stops before the end; and can be made whole, where the line cuts it off
pub record Modifies (s : List ℕ) (at : ℕ) (F : List ℕ → Result (Part × ℕ) ℕ) : Type 0 where
  pub low : at ≤ modifier_stop (F s)
  pub high : modifier_stop (F s) ≤ length s
  pub firm : (m : List ℕ) → modifier_stop (F s) < length s → F (s ++ m) ≡ F s
  pub rest : (q : ℕ) → F s ≡ Err q → q ≡ length s → ModifierRest F s

module _ (s : List ℕ) (at : ℕ) (h : at ≤ length s) where
  -- a number alone
  number-modifies : (f : Result (ℕ × ℕ) ℕ → Result (Part × ℕ) ℕ) → Ends at f → Modifies s at (λ t. f (number_at t at))
  number-modifies f (ends g a b) = go (number_at s at) refl (number-sits s at h)
    where
      go : (x : Result (ℕ × ℕ) ℕ) → number_at s at ≡ x → Sits s at x → Modifies s at (λ t. f (number_at t at))
      go (Ok (n, e)) q k =
          let z : f (number_at s at) ≡ Ok (g n, e) = rw q (a n e) in
          record {
            low = rw z (omega arith);
            high = rw z k.1;
            firm = λ m l. ap f (number-firm s m at h (let y = rw z at l in rw q y));
            rest = λ p y i. absurd (let w : ◌≡◌ {A = ℕ} 0 1 = cc in omega arith);
          }
      go (Err p) q k =
          let i = number-not s at p q in
          let z : f (number_at s at) ≡ Err at = rw q (b p) in
          record {
            low = rw z (omega arith);
            high = rw z h;
            firm = λ m l. ap f (number-firm s m at h (let y = rw z at l in rw (q, i) y));
            rest = λ p y j.
                let w : at ≡ length s = (let u : at ≡ p = cc in omega arith) in
                record { tail = code "1" ∷ []; part = g 1; whole = rw (w, number-one s [] (unfold between in refl)) (a 1 (length s + 1)) };
          }

  -- what reads as another modifier, in this line and with more
  modifies-as : (b : ℕ) (F G : List ℕ → Result (Part × ℕ) ℕ) → at ≤ b → ((m : List ℕ) → F (s ++ m) ≡ G (s ++ m)) → Modifies s b G → Modifies s at F
  modifies-as b F G l f g =
      let e : F s ≡ G s = rw append-nil at (f []) in
      record {
        low = rw e (let k = g.low in omega arith);
        high = rw e g.high;
        firm = λ m k. f m ∙ g.firm m (rw e at k) ∙ sym e;
        rest = λ q k i. let r = g.rest q (sym e ∙ k) i in record { tail = r.tail; part = r.part; whole = f r.tail ∙ r.whole };
      }

-- `.n` behind s, and `p.n`
dot-one : (p : ℕ) (s : List ℕ) → middle-dot p (s ++ (code "." ∷ (code "1" ∷ []))) (length s) (byte_at (code ".") (s ++ (code "." ∷ (code "1" ∷ []))) (length s))
    ≡ Ok (Middle p 1, length s + 2)
dot-one p s =
    let a = byte_one (code ".") s (code "1" ∷ []) in
    let l : length (s ++ (code "." ∷ [])) ≡ length s + 1 = simp length-append in
    let b = rw (append_assoc s (code "." ∷ []) (code "1" ∷ []), l) at (number-one (s ++ (code "." ∷ [])) [] (unfold between in refl)) in
    let e : length s + 1 + 1 ≡ length s + 2 = omega arith in
    rw (a, b, e)

middle-one : (s : List ℕ) → (let t : List ℕ = s ++ (code "1" ∷ (code "." ∷ (code "1" ∷ []))) in middle t (length s) (number_at t (length s)) ≡ Ok (Middle 1 1, length s + 3))
middle-one s =
    let a = number-one s (code "." ∷ (code "1" ∷ [])) (unfold between in refl) in
    let l : length (s ++ (code "1" ∷ [])) ≡ length s + 1 = simp length-append in
    let b = rw (append_assoc s (code "1" ∷ []) (code "." ∷ (code "1" ∷ [])), l) at (dot-one 1 (s ++ (code "1" ∷ []))) in
    let e : length s + 1 + 2 ≡ length s + 3 = omega arith in
    rw a (b ∙ rw e)

module _ (s : List ℕ) (at : ℕ) (h : at ≤ length s) where
  middle-modifies : Modifies s at (λ t. middle t at (number_at t at))
  middle-modifies = go (number_at s at) refl (number-sits s at h)
    where
      dot : (p e : ℕ) → number_at s at ≡ Ok (p, e) → at < e → e ≤ length s → (y : Result (ℕ × ℕ) ℕ) → byte_at (code ".") s e ≡ y → Sits s e y
          → Modifies s at (λ t. middle t at (number_at t at))
      dot p e q i j (Ok (d, c)) r k =
          modifies-as s at h c (λ t. middle t at (number_at t at)) (λ t. middle-n p c (number_at t c)) (omega arith)
          (λ m. rw (number-firm s m at h (rw q (omega arith)), q, byte-stays (code ".") s m e (omega arith), r))
          (number-modifies s c k.1 (middle-n p c) (ends (Middle p) (λ n u. refl) (λ u. refl)))
      dot p e q i j (Err c) r k =
          let z : middle s at (number_at s at) ≡ Err e = rw (q, r) in
          record {
            low = rw z (omega arith);
            high = rw z j;
            firm = λ m l.
                let o : e < length s = rw z at l in
                rw (number-firm s m at h (rw q o), q, byte-stays (code ".") s m e o, r);
            rest = λ u y v.
                let w : e ≡ length s = (let x : e ≡ u = cc in omega arith) in
                record {
                  tail = code "." ∷ (code "1" ∷ []);
                  part = Middle p 1;
                  whole = rw (number-over (code ".") s (code "1" ∷ []) at (unfold between in refl) h, q, w) (dot-one p s);
                };
          }

      go : (x : Result (ℕ × ℕ) ℕ) → number_at s at ≡ x → Sits s at x → Modifies s at (λ t. middle t at (number_at t at))
      go (Ok (p, e)) q k = dot p e q k.0 k.1 (byte_at (code ".") s e) refl (byte-sits (code ".") s e k.1)
      go (Err p) q k =
          let i = number-not s at p q in
          let z : middle s at (number_at s at) ≡ Err at = rw q in
          record {
            low = rw z (omega arith);
            high = rw z h;
            firm = λ m l. rw (number-firm s m at h (let y = rw z at l in rw (q, i) y), q);
            rest = λ u y v.
                let w : at ≡ length s = (let x : at ≡ u = cc in omega arith) in
                record { tail = code "1" ∷ (code "." ∷ (code "1" ∷ [])); part = Middle 1 1; whole = rw w (middle-one s) };
          }

-- ---- a modifier, or none
module _ (t : List ℕ) (at : ℕ) where
  modifier-first : get_or t at 0 ≡ code "L" → modifier_at t at ≡ first (at + 1) (number_at t (at + 1))
  unfolding modifier_at
  modifier-first h = rw h

  modifier-last : get_or t at 0 ≡ code "R" → modifier_at t at ≡ last (at + 1) (number_at t (at + 1))
  unfolding modifier_at
  modifier-last h = rw h

  modifier-middle : get_or t at 0 ≡ code "M" → modifier_at t at ≡ middle t (at + 1) (number_at t (at + 1))
  unfolding modifier_at
  modifier-middle h = rw h

  pub modifier-none : (get_or t at 0 ≡ code "L" → ⊥) → (get_or t at 0 ≡ code "R" → ⊥) → (get_or t at 0 ≡ code "M" → ⊥) → modifier_at t at ≡ Ok (Whole, at)
  unfolding modifier_at
  modifier-none a b c = rw (ne_eqb (get_or t at 0) (code "L") a, ne_eqb (get_or t at 0) (code "R") b, ne_eqb (get_or t at 0) (code "M") c)

pub modifier-modifies : (s : List ℕ) (at : ℕ) → at ≤ length s → Modifies s at (λ t. modifier_at t at)
modifier-modifies s at h = go (ℕ_discrete (get_or s at 0) (code "L")) (ℕ_discrete (get_or s at 0) (code "R")) (ℕ_discrete (get_or s at 0) (code "M"))
  where
    kept : (b : ℕ) → 0 < b → get_or s at 0 ≡ b → (m : List ℕ) → get_or (s ++ m) at 0 ≡ b
    kept b k e m = byte-kept s m at (inside s at (omega arith)) b e

    room : (b : ℕ) → 0 < b → get_or s at 0 ≡ b → at + 1 ≤ length s
    room b k e = let l = inside s at (omega arith) in omega arith

    go : Dec (get_or s at 0 ≡ code "L") → Dec (get_or s at 0 ≡ code "R") → Dec (get_or s at 0 ≡ code "M") → Modifies s at (λ t. modifier_at t at)
    go (yes e) b c =
        modifies-as s at h (at + 1) (λ t. modifier_at t at) (λ t. first (at + 1) (number_at t (at + 1))) (omega arith)
        (λ m. modifier-first (s ++ m) at (kept (code "L") (omega arith) e m))
        (number-modifies s (at + 1) (room (code "L") (omega arith) e) (first (at + 1)) (ends First (λ n u. refl) (λ u. refl)))
    go (no a) (yes e) c =
        modifies-as s at h (at + 1) (λ t. modifier_at t at) (λ t. last (at + 1) (number_at t (at + 1))) (omega arith)
        (λ m. modifier-last (s ++ m) at (kept (code "R") (omega arith) e m))
        (number-modifies s (at + 1) (room (code "R") (omega arith) e) (last (at + 1)) (ends Last (λ n u. refl) (λ u. refl)))
    go (no a) (no b) (yes e) =
        modifies-as s at h (at + 1) (λ t. modifier_at t at) (λ t. middle t (at + 1) (number_at t (at + 1))) (omega arith)
        (λ m. modifier-middle (s ++ m) at (kept (code "M") (omega arith) e m))
        (middle-modifies s (at + 1) (room (code "M") (omega arith) e))
    go (no a) (no b) (no c) =
        let z = modifier-none s at a b c in
        record {
          low = rw z (omega arith);
          high = rw z h;
          firm = λ m k.
              let l : at < length s = rw z at k in
              modifier-none (s ++ m) at (byte-other s m at l (code "L") a) (byte-other s m at l (code "R") b) (byte-other s m at l (code "M") c) ∙ sym z;
          rest = λ q k i. absurd (let w : ◌≡◌ {A = ℕ} 0 1 = cc in omega arith);
        }
