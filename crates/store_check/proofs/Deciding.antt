-- What the tests of one entry, of one portion and of the whole answer.
use mathlib.Core.Path.{◌≡◌, refl, sym, ap, ◌∙◌}
use mathlib.Core.List.{List, [], ◌∷◌}
use mathlib.Core.Bool.{Bool, true, false, not, ◌&&◌}
use mathlib.Core.Logic.{⊎_elim}
use Prim.Native.Nat.{ℕ, zero, suc, ◌+◌, ◌-◌, ◌*◌, ◌≤◌, ◌<◌, min}
use native.Mathlib.Omega.{arith}
use lib.ListN.{length, get_or, take, drop, length-drop}
use lib.Seq.{take-nil, drop-nil, drop-drop, take_all}
use lib.Dec.{eqb, leb}
use lib.Bits.{bit_or, or_add_and, and_le_r}
use borrow.Author.Tests.{eq-eqb, ne_eqb, le-leb, lt-leb, not-true, not-false}
use Rattle.cells.specs.Cell.{cell}
use Rattle.cells.specs.Count.{all_to, all_zero}
use Rattle.cells.proofs.Counts.{drop-step, drop-none}
use Rattle.std.specs.Prelude.{Option}
use Rattle.store.specs.Chain.{most_portions, needed, portion}
use Rattle.store.specs.Entry.{entries, entry, kind, name_length, name, size, last_of}
use Rattle.finding.specs.Find.{titled_at, recorded}
use Rattle.store_sound.specs.Sound.{lent_ok, chains_ok, name_byte_ok, name_ok, named_ok, is_here, unique_ok, single_ok, empty_ok, free_ok, tail_of, tail_ok}
use Rattle.ground.proofs.Tests.{and_left, same?}

-- ---- lengths

pub lent_is : (st ls dir : List ℕ) (r₁ r₂ r₃ r₄ : Bool) → length ls ≤ 2024 → r₁ ≡ (leb 1 (entries dir) && leb (entries dir) 512) → r₂ ≡ (eqb (length dir) (entries dir * 16) && r₁)
    → r₃ ≡ (eqb (length st) (length ls * 256) && r₂) → r₄ ≡ (leb 1 (length ls) && r₃) → r₄ ≡ lent_ok st ls dir
unfolding lent_ok
lent_is st ls dir r₁ r₂ r₃ r₄ h a b c d = rw (le-leb (length ls) 2024 h, ← a, ← b, ← c) d

pub lent-long : (st ls dir : List ℕ) → 2024 < length ls → false ≡ lent_ok st ls dir
unfolding lent_ok
lent-long st ls dir h = rw (lt-leb (length ls) 2024 h)

-- ---- one entry

module _ (dir : List ℕ) (i k : ℕ) (ek : k ≡ kind (entry dir i)) where
  empty : k ≡ 0 → eqb (kind (entry dir i)) 0 ≡ true
  empty z = eq-eqb (kind (entry dir i)) 0 (sym ek ∙ z)

  some : (k ≡ 0 → ⊥) → eqb (kind (entry dir i)) 0 ≡ false
  some n = ne_eqb (kind (entry dir i)) 0 (λ z. n (ek ∙ z))

  pub named-empty : k ≡ 0 → true ≡ named_ok dir i
  named-empty z = rw (empty z)

  module _ (n : ℕ) (en : n ≡ name_length (entry dir i)) (s : k ≡ 0 → ⊥) where
    pub named_none : n ≡ 0 → false ≡ named_ok dir i
    unfolding name_ok
    named_none z = rw (some s, lt-leb 1 (name_length (entry dir i)) (omega arith))

    pub named-long : 8 < n → false ≡ named_ok dir i
    unfolding name_ok
    named-long h = rw (some s, le-leb 1 (name_length (entry dir i)) (omega arith), lt-leb (name_length (entry dir i)) 8 (omega arith))

    pub named-is : (t : List ℕ) (r : Bool) → (n ≡ 0 → ⊥) → n ≤ 8 → t ≡ name (entry dir i) → r ≡ all_to (name_byte_ok n t) 8 → r ≡ named_ok dir i
    unfolding name_ok
    named-is t r a b et er =
        rw (some s, le-leb 1 (name_length (entry dir i)) (omega arith), le-leb (name_length (entry dir i)) 8 (omega arith), ← en, ← et) er

  pub unique-empty : k ≡ 0 → true ≡ unique_ok dir i
  unfolding unique_ok
  unique-empty z = rw (empty z)

  pub unique-is : (t : List ℕ) (f : Option ℕ) (r : Bool) → (k ≡ 0 → ⊥) → t ≡ name (entry dir i) → f ≡ titled_at dir (eqb k 2) t → r ≡ is_here i f → r ≡ unique_ok dir i
  unfolding unique_ok
  unique-is t f r s et ef er = rw (some s, ← ek, ← et) (er ∙ ap (is_here i) ef)

  pub single-other : (k ≡ 3 → ⊥) → true ≡ single_ok dir i
  unfolding single_ok
  single-other n = rw (ne_eqb (kind (entry dir i)) 3 (λ z. n (ek ∙ z)))

  pub single-is : (f : Option ℕ) (r : Bool) → k ≡ 3 → f ≡ recorded dir → r ≡ is_here i f → r ≡ single_ok dir i
  unfolding single_ok
  single-is f r z ef er = rw (eq-eqb (kind (entry dir i)) 3 (sym ek ∙ z)) (er ∙ ap (is_here i) ef)

  pub empty-other : (k ≡ 0 → ⊥) → true ≡ empty_ok dir i
  empty-other n = rw (some n)

  pub empty-is : (r : Bool) → k ≡ 0 → r ≡ all_zero (entry dir i) → r ≡ empty_ok dir i
  empty-is r z e = rw (empty z) e

-- ---- cells

-- a cell past the end is all zero
pub cell_out : (w : ℕ) (l : List ℕ) (a : ℕ) → length l ≤ a → true ≡ all_zero (take w (drop a l))
cell_out w l a h = sym (ap (λ (x : List ℕ). all_zero (take w x)) (drop-none l a h) ∙ ap all_zero (take-nil w))

pub drop-take : (o n : ℕ) (l : List ℕ) → drop o (take n l) ≡ take (n - o) (drop o l)
drop-take zero n l = ap (λ (m : ℕ). take m l) (let e : n ≡ n - 0 = omega arith in e)
drop-take (suc o) zero l = ap (λ (m : ℕ). take m (drop (suc o) l)) (let e : 0 ≡ 0 - suc o = omega arith in e)
drop-take (suc o) (suc n) [] = drop-nil (suc o) ∙ sym (take-nil (suc n - suc o))
drop-take (suc o) (suc n) (x ∷ l) = drop-take o n l ∙ ap (λ (m : ℕ). take m (drop o l)) (let e : n - o ≡ suc n - suc o = omega arith in e)

-- what fits is all there is
pub take-fits : (n m : ℕ) (l : List ℕ) → m ≡ min n (length l) → take m l ≡ take n l
take-fits n m l e = go (native.Mathlib.Decide.dec_le n (length l))
  where
    go : Dec (n ≤ length l) → take m l ≡ take n l
    go (yes h) = ap (λ (k : ℕ). take k l) (let z : m ≡ n = omega arith in z)
    go (no h) = take_all m l (omega arith) ∙ sym (take_all n l (omega arith))

-- bytes joined by `|`: one more, and all
pub zero_more : (l : List ℕ) (i any : ℕ) → i < length l → (eqb (bit_or any (get_or l i 0)) 0 && all_zero (drop (i + 1) l)) ≡ (eqb any 0 && all_zero (drop i l))
zero_more l i any h = rw (drop-step l i h) (⊎_elim
    (λ (z : any ≡ 0). rw z)
    (λ (n : any ≡ 0 → ⊥). rw (ne_eqb any 0 n, ne_eqb (bit_or any (get_or l i 0)) 0 (λ z. n (omega (arith, or_add_and any (get_or l i 0), and_le_r any (get_or l i 0))))))
    (same? any 0))

pub zero-end : (l : List ℕ) (i : ℕ) (b : Bool) → length l ≤ i → b ≡ (b && all_zero (drop i l))
zero-end l i true h = rw (drop-none l i h)
zero-end l i false h = refl

-- ---- one portion, and the tail of one chain

module _ (st ls : List ℕ) (q v : ℕ) (ev : v ≡ get_or ls q 0) where
  pub free_other : (v ≡ 65535 → ⊥) → true ≡ free_ok st ls q
  free_other n = rw (ne_eqb (get_or ls q 0) 65535 (λ z. n (ev ∙ z)))

  pub free-is : (r : Bool) → v ≡ 65535 → r ≡ all_zero (portion st q) → r ≡ free_ok st ls q
  free-is r z e = rw (eq-eqb (get_or ls q 0) 65535 (sym ev ∙ z)) e

module _ (st ls dir : List ℕ) (i k : ℕ) (ek : k ≡ kind (entry dir i)) where
  pub tail-empty : k ≡ 0 → true ≡ tail_ok st ls dir i
  tail-empty z = rw (eq-eqb (kind (entry dir i)) 0 (sym ek ∙ z))

  pub tail-is : (s n p : ℕ) (r : Bool) → (k ≡ 0 → ⊥) → s ≡ size (entry dir i) → n ≡ needed s → p ≡ last_of ls (entry dir i)
      → r ≡ all_zero (take (256 - (s - 256 * (n - 1))) (drop (p * 256 + (s - 256 * (n - 1))) st)) → r ≡ tail_ok st ls dir i
  unfolding tail_of cell
  tail-is s n p r sk es en ep er =
      rw (ne_eqb (kind (entry dir i)) 0 (λ z. sk (ek ∙ z)), ← es, ← en, ← ep, drop-take (s - 256 * (n - 1)) 256 (drop (p * 256) st), drop-drop (s - 256 * (n - 1)) (p * 256) st) er

-- a part of a list, cut at its end
pub zero-part : (l : List ℕ) (a n m : ℕ) → m ≡ min n (length l - a) → all_zero (take (a + m - a) (drop a l)) ≡ all_zero (take n (drop a l))
zero-part l a n m e =
    ap (λ (k : ℕ). all_zero (take k (drop a l))) (let z : a + m - a ≡ m = omega arith in z)
    ∙ ap all_zero (take-fits n m (drop a l) (e ∙ ap (min n) (sym (length-drop a l))))

-- ---- joined tests: r is the answer to a, and the code goes on where it is true

pub stop : (r a b : Bool) → r ≡ a → r ≡ false → false ≡ (a && b)
stop r a b e h = rw (sym e ∙ h)

pub skip : (r a b x : Bool) → r ≡ a → r ≡ true → x ≡ b → x ≡ (a && b)
skip r a b x e h k = rw (sym e ∙ h) k

-- where the lengths are right there are no more portions than may be lent, so that the answer to the chains is that of their clauses
pub chains-lent : (st ls dir : List ℕ) {l r : Bool} → l ≡ lent_ok st ls dir → l ≡ true → r ≡ (leb (length ls) most_portions && chains_ok ls dir) → r ≡ chains_ok ls dir
unfolding lent_ok
chains-lent st ls dir {l} e h k = k ∙ rw (and_left (leb (length ls) most_portions) _ (sym e ∙ h))
