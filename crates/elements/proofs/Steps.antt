-- Stepping through data: where each element ends, and that whoever steps follows `elements`.
use Rattle.std.specs.Prelude.{Result, Ok, Err}
use mathlib.Core.Path.{◌≡◌, refl, ap}
use Prim.Native.Char.{code}
use mathlib.Core.Bool.{Bool, true, false, cond, false≢true}
use mathlib.Core.List.{List, [], ◌∷◌}
use Prim.Native.Nat.{ℕ, zero, suc, ◌+◌, ◌-◌, ◌≤◌, ◌<◌}
use native.Mathlib.Omega.{arith}
use lib.Dec.{eqb}
use borrow.Author.Tests.{eqb-true}
use lib.ListN.{length, get_or}
use Rattle.formats.specs.Bytes.{between}
use Rattle.numbers.proofs.ClassesLaws.{inside, past}
use Rattle.fields.specs.Field.{text_at, byte_at, pointed}
use Rattle.fields.proofs.Laws.{Ends, text-ends, byte-ends}
use Rattle.numbers.specs.Number.{number_at}
use Rattle.formats.specs.declared.Stamp.TheVariants.{Date, Time}
use Rattle.numbers.proofs.Laws.{number-ends}
use Rattle.elements.specs.Elements.{first, last, middle, middle-dot, middle-n, modifier_at, quoted_from, modified, held_at, stamped_from, stamped_at, element_at, after, follow, elements_from, elements}
use Rattle.elements.specs.declared.Part.{Part}
use Rattle.elements.specs.declared.Part.TheVariants.{Whole}
use Rattle.elements.specs.declared.Element.{Element}

digit-above : (b : ℕ) → between (code "0") (code "9") b ≡ true → 0 < b
unfolding between
digit-above zero h = absurd (false≢true h)
digit-above (suc b) h = omega arith

-- where a modifier ends
abbrev pub Modified : List ℕ → ℕ → Result (Part × ℕ) ℕ → Type 0
Modified s at (Ok (p, e)) = (at ≤ e) × (e ≤ length s)
Modified s at (Err q) = Unit {0}

module _ (s : List ℕ) (at : ℕ) where
  first_ends : (f : Result (ℕ × ℕ) ℕ) → Ends s (at + 1) f → Modified s at (first (at + 1) f)
  first_ends (Ok (n, e)) h = (omega arith, h.1)
  first_ends (Err p) h = tt

  last-ends : (f : Result (ℕ × ℕ) ℕ) → Ends s (at + 1) f → Modified s at (last (at + 1) f)
  last-ends (Ok (n, e)) h = (omega arith, h.1)
  last-ends (Err p) h = tt

  middle-n-ends : (p b : ℕ) (f : Result (ℕ × ℕ) ℕ) → at ≤ b → Ends s b f → Modified s at (middle-n p b f)
  middle-n-ends p b (Ok (n, e)) k h = (omega arith, h.1)
  middle-n-ends p b (Err q) k h = tt

  middle-dot-ends : (p d : ℕ) (f : Result (ℕ × ℕ) ℕ) → at ≤ d → Ends s d f → Modified s at (middle-dot p s d f)
  middle-dot-ends p d (Ok (b, e)) k h = middle-n-ends p e (number_at s e) (omega arith) (number-ends s e)
  middle-dot-ends p d (Err q) k h = tt

  middle-ends : (f : Result (ℕ × ℕ) ℕ) → Ends s (at + 1) f → Modified s at (middle s (at + 1) f)
  middle-ends (Ok (p, e)) h = middle-dot-ends p e (byte_at (code ".") s e) (omega arith) (byte-ends (code ".") s e)
  middle-ends (Err q) h = tt

  pub modifier-ends : at ≤ length s → Modified s at (modifier_at s at)
  unfolding modifier_at
  modifier-ends h = go (eqb (get_or s at 0) (code "L")) (eqb (get_or s at 0) (code "R")) (eqb (get_or s at 0) (code "M"))
    where
      go : (a b c : Bool)
          → Modified s at
          (cond a (first (at + 1) (number_at s (at + 1)))
          (cond b (last (at + 1) (number_at s (at + 1)))
          (cond c (middle s (at + 1) (number_at s (at + 1)))
          (Ok (Whole, at)))))
      go true b c = first_ends (number_at s (at + 1)) (number-ends s (at + 1))
      go false true c = last-ends (number_at s (at + 1)) (number-ends s (at + 1))
      go false false true = middle-ends (number_at s (at + 1)) (number-ends s (at + 1))
      go false false false = (omega arith, h)

-- an element stands at its place, takes two bytes at least, and ends within the line
abbrev pub Took : List ℕ → ℕ → Result Element ℕ → Type 0
Took s at (Ok e) = (e.at ≡ at) × (2 ≤ e.length) × (after e ≤ length s)
Took s at (Err p) = Unit {0}

module _ (s : List ℕ) (at : ℕ) where
  quoted-took : (f : Result (ℕ × ℕ) ℕ) → text_at s at ≡ f → Took s at (quoted_from at f)
  quoted-took (Ok (n, e)) h = let k = text-ends s at n e h in (refl, omega arith, k.1)
  quoted-took (Err p) h = tt

  modified-took : (counter : Bool) (digit : ℕ) (m : Result (Part × ℕ) ℕ) → Modified s (at + 2) m → Took s at (modified counter digit s at m)
  modified-took counter digit (Ok (p, e)) h = (refl, omega arith, omega arith)
  modified-took counter digit (Err q) h = tt

  held-took : (counter : Bool) → Took s at (held_at counter s at)
  unfolding held_at between
  held-took counter = go (between (code "0") (code "9") (get_or s (at + 1) 0)) refl
    where
      go : (t : Bool) → between (code "0") (code "9") (get_or s (at + 1) 0) ≡ t
          → Took s at (cond t (modified counter (get_or s (at + 1) 0) s at (modifier_at s (at + 2))) (Err (pointed s at (at + 1))))
      go true e =
          let k = inside s (at + 1) (digit-above (get_or s (at + 1) 0) e) in
          modified-took counter (get_or s (at + 1) 0) (modifier_at s (at + 2)) (modifier-ends s (at + 2) (omega arith))
      go false e = tt

  -- the second letter stands within the line
  stamped-took : Took s at (stamped_at s at)
  unfolding stamped_at
  stamped-took = go (eqb (get_or s (at + 1) 0) (code "D")) (eqb (get_or s (at + 1) 0) (code "T")) refl refl
    where
      stands : (b : ℕ) → eqb (get_or s (at + 1) 0) (suc b) ≡ true → at + 2 ≤ length s
      stands b e = let q = eqb-true (get_or s (at + 1) 0) (suc b) e in let k = inside s (at + 1) (omega arith) in omega arith

      go : (a b : Bool) → eqb (get_or s (at + 1) 0) (code "D") ≡ a → eqb (get_or s (at + 1) 0) (code "T") ≡ b
          → Took s at (cond a (stamped_from at Date) (cond b (stamped_from at Time) (Err (pointed s at (at + 1)))))
      go true b e f = (refl, omega arith, stands 67 e)
      go false true e f = (refl, omega arith, stands 83 f)
      go false false e f = tt

  pub element-took : Took s at (element_at s at)
  unfolding element_at
  element-took = go (eqb (get_or s at 0) (code "\"")) (eqb (get_or s at 0) (code "V")) (eqb (get_or s at 0) (code "C")) (eqb (get_or s at 0) (code "T"))
    where
      go : (a b c d : Bool)
          → Took s at
          (cond a (quoted_from at (text_at s at)) (cond b (held_at false s at) (cond c (held_at true s at) (cond d (stamped_at s at) (Err at)))))
      go true b c d = quoted-took (text_at s at) refl
      go false true c d = held-took false
      go false false true d = held-took true
      go false false false true = stamped-took
      go false false false false = tt

-- past the end there is no element
pub element-past : (s : List ℕ) (at : ℕ) → length s ≤ at → element_at s at ≡ Err at
unfolding element_at
element-past s at h = rw (past s at h)

-- elements do not depend on how many may be asked for, where there are enough
enough : (n m : ℕ) (s : List ℕ) (at : ℕ) → length s ≤ n + at → length s ≤ m + at → elements_from n s at ≡ elements_from m s at
unfolding elements_from
enough zero zero s at h k = refl
enough zero (suc m) s at h k = rw (element-past s at (omega arith))
enough (suc n) zero s at h k = rw (element-past s at (omega arith))
enough (suc n) (suc m) s at h k = go (element_at s at) (element-took s at) (λ i. enough n m s i)
  where
    go : (x : Result Element ℕ) → Took s at x → ((i : ℕ) → length s ≤ n + i → length s ≤ m + i → elements_from n s i ≡ elements_from m s i)
        → follow x (elements_from n s) ≡ follow x (elements_from m s)
    go (Ok e) t r = ap (λ (l : List Element). e ∷ l) (r (after e) (omega arith) (omega arith))
    go (Err p) t r = refl

-- one step, and the end: whoever goes from each element to the place after it follows `elements`
pub elements-next : (s : List ℕ) (at : ℕ) (e : Element) → element_at s at ≡ Ok e → elements s at ≡ e ∷ elements s (after e)
unfolding elements elements_from
elements-next s at e h = go (length s - at) refl
  where
    t : Took s at (Ok e)
    t = rw h at (element-took s at)

    go : (n : ℕ) → length s - at ≡ n → elements_from n s at ≡ e ∷ elements_from (length s - after e) s (after e)
    go zero q = absurd (omega (arith, t))
    go (suc n) q = rw h (ap (λ (l : List Element). e ∷ l) (enough n (length s - after e) s (after e) (omega (arith, t)) (omega arith)))

pub elements-stop : (s : List ℕ) (at p : ℕ) → element_at s at ≡ Err p → elements s at ≡ []
unfolding elements elements_from
elements-stop s at p h = go (length s - at)
  where
    go : (n : ℕ) → elements_from n s at ≡ []
    go zero = refl
    go (suc n) = rw h
