-- The rule of Code 128's table, computed once over the 106 rows and carried to each; and the modules of a symbol that follow from it.
-- Assumes nothing.
use mathlib.Core.Path.{◌≡◌, refl, ap, subst, ◌∙◌}
use mathlib.Core.Bool.{Bool, true, not, ◌&&◌}
use mathlib.Core.List.{List, [], ◌∷◌, ◌++◌}
use Prim.Native.Nat.{ℕ, ◌+◌, ◌*◌, ◌%◌, ◌<◌}
use native.Mathlib.Omega.{arith}
use borrow.Author.Tests.{ltb-true}
use lib.Dec.{T, T_not, leb, ltb, eqb, eqb→eq, eqb_refl, leb→le}
use lib.ListN.{length, get_or}
use Rattle.kinds.specs.Bytes.{all_in}
use Rattle.ground.proofs.Tests.{and-true}
use Rattle.code128.specs.Widths.{digits, each, sum}
use Rattle.code128.specs.Code128.{rows128, six, check128, elements128}
use Rattle.code128.specs.Rule.{Row}
use Rattle.code128.proofs.Tables.{and_left, and_right, below, below_at}

-- ---- the tests at row v

each_of : ℕ → ℕ → Bool
each_of v j = leb 1 (get_or (six v) j 0) && leb (get_or (six v) j 0) 4

modules-of : ℕ → Bool
modules-of v = eqb (sum (six v)) 11

bars-of : ℕ → Bool
bars-of v = eqb ((get_or (six v) 0 0 + get_or (six v) 2 0 + get_or (six v) 4 0) % 2) 0

-- six widths make their row again
packed : List ℕ → ℕ
packed [] = 0
packed (w ∷ ws) = w + 10 * packed ws

number : ℕ → ℕ
number v = packed (six v)

apart_of : ℕ → ℕ → Bool
apart_of v u = not (eqb (number u) (number v))

good : ℕ → Bool
good v = below (each_of v) 6 && (modules-of v && (bars-of v && below (apart_of v) v))

tested : T (below good 106)
unfolding good each_of modules-of bars-of apart_of number packed sum six digits rows128
tested = tt

-- ---- carried to each row

pub rule : (v : ℕ) → v < 106 → Row v
unfolding good each_of modules-of bars-of apart_of number
rule v h =
    let t : T (good v) = below_at good 106 tested v h in
    let t1 = and_right (below (each_of v) 6) (modules-of v && (bars-of v && below (apart_of v) v)) t in
    let t2 = and_right (modules-of v) (bars-of v && below (apart_of v) v) t1 in
    record {
      each = λ j l.
          let e : T (each_of v j) = below_at (each_of v) 6 (and_left (below (each_of v) 6) (modules-of v && (bars-of v && below (apart_of v) v)) t) j l in
          (leb→le 1 (get_or (six v) j 0) (and_left (leb 1 (get_or (six v) j 0)) (leb (get_or (six v) j 0) 4) e), leb→le (get_or (six v) j 0) 4 (and_right (leb 1 (get_or (six v) j 0)) (leb (get_or (six v) j 0) 4) e));
      modules = eqb→eq (sum (six v)) 11 (and_left (modules-of v) (bars-of v && below (apart_of v) v) t1);
      bars = eqb→eq ((get_or (six v) 0 0 + get_or (six v) 2 0 + get_or (six v) 4 0) % 2) 0 (and_left (bars-of v) (below (apart_of v) v) t2);
      apart = λ u l e.
          T_not (eqb (number u) (number v)) (below_at (apart_of v) v (and_right (bars-of v) (below (apart_of v) v) t2) u l)
          (subst (λ k. T (eqb (number u) k)) (ap packed e) (eqb_refl (number u)));
    }

-- ---- n symbols, the check symbol and the stop have 11 n + 24 modules

pub sum-append : (xs ys : List ℕ) → sum (xs ++ ys) ≡ sum xs + sum ys
unfolding sum
sum-append [] ys = omega arith
sum-append (x ∷ xs) ys = ap (λ k. x + k) (sum-append xs ys) ∙ omega arith

-- each symbol is a row of the table, and so of 11 modules
sum-symbols : (vs : List ℕ) → all_in (λ v. ltb v 106) vs ≡ true → sum (each six vs) ≡ 11 * length vs
unfolding sum each
sum-symbols [] h = refl
sum-symbols (v ∷ vs) h =
    let i = and-true (ltb v 106) (all_in (λ v. ltb v 106) vs) h in
    sum-append (six v) (each six vs) ∙ omega (arith, (rule v (ltb-true v 106 i.0)).modules, sum-symbols vs i.1)

check-small : (vs : List ℕ) → check128 vs < 106
unfolding check128
check-small [] = omega arith
check-small (v ∷ vs) = omega arith

stop-modules : sum (six 106 ++ (2 ∷ [])) ≡ 13
unfolding sum six digits rows128
stop-modules = refl

pub sum-128 : (vs : List ℕ) → all_in (λ v. ltb v 106) vs ≡ true → sum (elements128 vs) ≡ 11 * length vs + 24
unfolding elements128
sum-128 vs h =
    sum-append (each six vs) (six (check128 vs) ++ (six 106 ++ (2 ∷ [])))
    ∙ omega (
      arith,
      sum-append (six (check128 vs)) (six 106 ++ (2 ∷ [])),
      (rule (check128 vs) (check-small vs)).modules,
      stop-modules,
      sum-symbols vs h,
    )
