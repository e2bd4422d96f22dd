-- The leftmost element of a row that is at fault is leftmost, and stands within the line.
use Rattle.std.specs.Prelude.{Result, Ok, Err}
use mathlib.Core.Path.{◌≡◌, refl}
use mathlib.Core.Bool.{Bool, true, false, cond, false≢true, ◌||◌}
use mathlib.Core.List.{List, [], ◌∷◌}
use Prim.Native.Nat.{ℕ, zero, suc, ◌-◌, ◌≤◌}
use native.Mathlib.Omega.{arith}
use lib.ListN.{length}
use Rattle.elements.specs.declared.What.{What}
use Rattle.elements.specs.declared.Element.{Element}
use Rattle.elements.specs.Elements.{element_at, after, follow, elements_from, elements}
use Rattle.elements.proofs.Steps.{Took, element-took}
use Rattle.reach.specs.Answers.{some_of, leftmost, Leftmost}

-- where the test holds of some element, `leftmost` is the place of the leftmost such
pub leftmost-first : (q : What → Bool) (es : List Element) → some_of q es ≡ true → Leftmost q es (leftmost q es)
leftmost-first q [] h = absurd (false≢true h)
leftmost-first q (e ∷ es) h = by (q e.what) refl h (leftmost-first q es)
  where
    by : (b : Bool) → q e.what ≡ b → (b || some_of q es) ≡ true → (some_of q es ≡ true → Leftmost q es (leftmost q es))
        → Leftmost q (e ∷ es) (cond b e.at (leftmost q es))
    by true t k more = record { before = []; found = e; behind = es; stands = refl; passed = refl; holds = t; points = refl }
    by false t k more =
        let r = more k in
        record {
          before = e ∷ r.before;
          found = r.found;
          behind = r.behind;
          stands = λ i. e ∷ r.stands i;
          passed = rw t r.passed;
          holds = r.holds;
          points = r.points;
        }

place_inside : (n m k : ℕ) (b : Bool) → n ≤ k → m ≤ k → cond b n m ≤ k
place_inside n m k true h l = h
place_inside n m k false h l = l

from-inside : (q : What → Bool) (s : List ℕ) (n at : ℕ) → leftmost q (elements_from n s at) ≤ length s
unfolding elements_from
from-inside q s zero at = omega arith
from-inside q s (suc n) at = by (element_at s at) (element-took s at) (from-inside q s n)
  where
    by : (x : Result Element ℕ) → Took s at x → ((i : ℕ) → leftmost q (elements_from n s i) ≤ length s) → leftmost q (follow x (elements_from n s)) ≤ length s
    by (Ok e) t more = place_inside e.at (leftmost q (elements_from n s (after e))) (length s) (q e.what) (omega (arith, t)) (more (after e))
    by (Err p) t more = omega arith

-- it is no place past the line
pub leftmost-inside : (q : What → Bool) (s : List ℕ) (at : ℕ) → leftmost q (elements s at) ≤ length s
unfolding elements
leftmost-inside q s at = from-inside q s (length s - at) at
