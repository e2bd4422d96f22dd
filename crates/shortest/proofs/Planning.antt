-- The plan: lengths of best writings from the last byte back, and a mark for each byte.
-- Assumes nothing.
use mathlib.Core.Path.{◌≡◌, refl, ap, ◌∙◌}
use mathlib.Core.Bool.{Bool, true, false, cond}
use mathlib.Core.List.{List}
use Prim.Native.Nat.{ℕ, suc, ◌+◌, ◌≤◌, ◌<◌}
use native.Mathlib.Nat.{add-zero}
use native.Mathlib.Numerals.{add-one}
use native.Mathlib.Omega.{arith}
use lib.ListN.{length, get_or, set, drop, length-set, length-drop}
use lib.Seq.{drop-length, drop-cons, get_or-drop, get_or-set_same, get_or-set_other}
use lib.Dec.{eqb}
use borrow.Author.Tests.{eqb-true, eqb-false}
use Rattle.shortest.specs.declared.plan.Lengths.{Lengths}
use Rattle.shortest.specs.Found.{Best, two, leaves_b, step, best}
use Rattle.shortest.specs.Lengths.{Measured, leaves, lengthened, mark_of, Planned}
use Rattle.shortest.proofs.Best.{near, few, best-at}

-- ---- one byte more, told by lengths

pub leaves_by : (a b : ℕ) (m : Lengths) (x : Best) → Measured x m → leaves a b m ≡ leaves_b a b x
unfolding leaves_b
leaves_by a b m x k = rw (k.later, k.in_b)

length-cond : (t : Bool) (n m : ℕ) (u v : List ℕ) → n ≡ length u → m ≡ length v → cond t n m ≡ length (cond t u v)
length-cond true n m u v p q = p
length-cond false n m u v p q = q

pub lengthened-by : (a b : ℕ) (m : Lengths) (x : Best) → Measured x m → Measured (step a b x) (lengthened a b m)
unfolding step
lengthened-by a b m x k = record {
  in_b = rw (leaves_by a b m x k) (length-cond (leaves_b a b x) _ _ _ _ (omega (arith, k)) (omega (arith, k)));
  in_c = length-cond (two a b) _ _ _ _ (omega (arith, k)) (omega (arith, k));
  later = k.in_c;
}

-- ---- the loop

pub mark-at : (s : List ℕ) (i : ℕ) → i < length s → mark_of (drop i s) ≡ cond (leaves_b (get_or s i 0) (get_or s (i + 1) 0) (best (drop (i + 1) s))) 1 0
unfolding mark_of
mark-at s i h = rw (drop-cons s i 0 h, get_or-drop (suc i) s 0 0, add-zero (suc i), add-one i)

pub record Planning (s marks₀ marks : List ℕ) (m : Lengths) (i : ℕ) : Type 0 where
  pub below : i ≤ length s
  pub long : length marks ≡ length marks₀
  pub small : (m.b ≤ length s) × (m.later ≤ length s + 1)
  pub measured : Measured (best (drop i s)) m
  pub planned : Planned s i marks

pub planning-start : (s marks : List ℕ) → Planning s marks marks (record { b = 0; c = 0; later = 0 }) (length s)
unfolding best
planning-start s marks = record {
  below = omega arith;
  long = refl;
  small = omega arith;
  measured = rw (drop-length s) (record { in_b = refl; in_c = refl; later = refl });
  planned = λ j h l. absurd (omega arith);
}

planned-step : (s marks : List ℕ) (j x : ℕ) → j < length marks → x ≡ mark_of (drop j s) → Planned s (j + 1) marks → Planned s j (set marks j x)
planned-step s marks j x room e p n h l = go (eqb n j) refl
  where
    go : (t : Bool) → eqb n j ≡ t → get_or (set marks j x) n 0 ≡ mark_of (drop n s)
    go true q = rw (eqb-true n j q) (get_or-set_same marks j x 0 room ∙ e)
    go false q = get_or-set_other marks j n x 0 (eqb-false n j q) ∙ p n (let y = eqb-false n j q in omega arith) l

pub planning-step : (s marks₀ marks marks' : List ℕ) (m r : Lengths) (i j a b x : ℕ) → i ≡ j + 1 → length s ≤ length marks₀ → Planning s marks₀ marks m i
    → a ≡ get_or s j 0 → b ≡ get_or s (j + 1) 0 → x ≡ cond (leaves a b m) 1 0 → r ≡ lengthened a b m → marks' ≡ set marks j x → Planning s marks₀ marks' r j
planning-step s marks₀ marks marks' m r i j a b x e room p ea eb ex er st =
    let inside : j < length s = omega (arith, p.below) in
    let known : Measured (best (drop (j + 1) s)) m = rw e at p.measured in
    let now : Measured (best (drop j s)) r = rw (best-at s j inside, ← ea, ← eb, er) (lengthened-by a b m (best (drop (j + 1) s)) known) in
    let here : x ≡ mark_of (drop j s) = ex ∙ rw (mark-at s j inside, ← ea, ← eb) (ap (λ t. cond t 1 0) (leaves_by a b m (best (drop (j + 1) s)) known)) in
    record {
      below = omega arith;
      long = ap length st ∙ length-set marks j x ∙ p.long;
      small = omega (arith, now, few (drop j s), near (drop j s), length-drop j s);
      measured = now;
      planned = rw st (planned-step s marks j x (omega (arith, p.long)) here (rw e at p.planned));
    }
