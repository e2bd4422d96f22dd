-- Laws of `reaches_past` and `answered`.
use Rattle.std.proofs.Common.{Result, Ok, Err}
use mathlib.Core.Path.{◌≡◌, refl, sym, ◌∙◌}
use mathlib.Core.Bool.{Bool, true, false, cond, ◌||◌}
use mathlib.Core.List.{List}
use Prim.Native.Nat.{ℕ, ◌+◌, ◌-◌, ◌≤◌, ◌<◌}
use native.Mathlib.Omega.{arith}
use native.Mathlib.Decide.{dec_le}
use lib.Dec.{ltb}
use borrow.Author.Tests.{lt-ltb, le-ltb}
use Rattle.elements.specs.declared.Part.TheVariants.{Middle}
use Rattle.elements.specs.declared.Element.{Element}
use Rattle.elements.specs.Elements.{element_at, elements, after}
use Rattle.elements.proofs.Steps.{elements-next, elements-stop}
use Rattle.declarations.specs.declared.Declared.{Declared}
use Rattle.reach.specs.declared.DataFault.{DataFault}
use Rattle.reach.specs.declared.DataFault.TheVariants.{Undeclared, Past}
use Rattle.reach.specs.Answers.{reaches_past, undeclared_by, past_by, some_of, leftmost, or_else, answered}

-- ---- how far a modifier reaches

pub middle-far : (p n m : ℕ) → m + 1 < n → true ≡ reaches_past (Middle p n) m
unfolding reaches_past
middle-far p n m h = sym (lt-ltb m (p + n - 1) (omega arith))

pub middle-near : (p n m : ℕ) → n ≤ m + 1 → ltb (m + 1 - n) p ≡ reaches_past (Middle p n) m
unfolding reaches_past
middle-near p n m h = elim (dec_le p (m + 1 - n)) [
  | yes k ↦ le-ltb (m + 1 - n) p k ∙ sym (le-ltb m (p + n - 1) (omega arith))
  | no k ↦ lt-ltb (m + 1 - n) p (omega arith) ∙ sym (lt-ltb m (p + n - 1) (omega arith))
]

-- ---- along the elements

or-else-next :
    (before : Result Unit DataFault) (p q : Bool) (at n : ℕ) →
    or_else before (cond (p || q) (Err (Past (cond p at n))) (Ok tt)) ≡ or_else (or_else before (cond p (Err (Past at)) (Ok tt))) (cond q (Err (Past n)) (Ok tt))
or-else-next (Ok u) true q at n = refl
or-else-next (Ok u) false q at n = refl
or-else-next (Err fault) p q at n = refl

or-else-good : (before : Result Unit DataFault) → or_else before (Ok tt) ≡ before
or-else-good (Ok u) = refl
or-else-good (Err fault) = refl

module _ (d : Declared) (before : Result Unit DataFault) (s : List ℕ) (i : ℕ) where
  module _ (e : Element) (found : element_at s i ≡ Ok e) where
    pub answered-undeclared : undeclared_by d e.what ≡ true → answered d before (elements s i) ≡ Err (Undeclared e.at)
    answered-undeclared h = rw (elements-next s i e found, h)

    pub answered-next :
        undeclared_by d e.what ≡ false →
        answered d before (elements s i) ≡ answered d (or_else before (cond (past_by d e.what) (Err (Past e.at)) (Ok tt))) (elements s (after e))
    answered-next h =
        rw (
          elements-next s i e found,
          h,
          or-else-next before (past_by d e.what) (some_of (past_by d) (elements s (after e))) e.at (leftmost (past_by d) (elements s (after e))),
        )

  pub answered-stop : (p : ℕ) → element_at s i ≡ Err p → answered d before (elements s i) ≡ before
  answered-stop p found = rw (elements-stop s i p found) (or-else-good before)
