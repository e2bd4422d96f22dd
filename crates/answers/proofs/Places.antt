-- Paper 02, §2: which answers give a place.
-- Assumes nothing.
use mathlib.Core.Path.{◌≡◌, refl}
use mathlib.Core.Bool.{Bool, true, false, ◌&&◌, ◌||◌, true≢false}
use mathlib.Core.List.{List, [], ◌∷◌}
use Prim.Native.Nat.{ℕ, ◌≤◌, ◌<◌}
use native.Mathlib.Omega.{arith}
use native.Mathlib.Decide.{ℕ_discrete}
use lib.Dec.{eqb, leb}
use borrow.Author.Tests.{ne_eqb, le-leb, lt-leb}
use Rattle.answers.specs.declared.Answer.{Answer}
use Rattle.answers.specs.declared.Answer.TheVariants.{
  Taken,
  Lengths,
  Font,
  Unsound,
  Unended,
  Long,
  Unwritten,
  Limits,
  Owing,
  Misplaced,
  InUse,
  Missing,
  Again,
  Undeclared,
  Past,
  Unfit,
  Illegal,
  Misfit,
  Unset,
  RunsOut,
  FewPortions,
  NoEntry,
  Overlong,
  NoneOwed,
}
use Rattle.answers.specs.Answers.{number_of, place_of, pointing, points}

-- "Other answers give place 0"
pub points-nowhere : (a : Answer) → points a ≡ false → place_of a ≡ 0
unfolding points number_of place_of
points-nowhere Taken e = refl
points-nowhere Lengths e = refl
points-nowhere Font e = refl
points-nowhere Unsound e = refl
points-nowhere Unended e = refl
points-nowhere Long e = refl
points-nowhere (Unwritten p) e = absurd (true≢false e)
points-nowhere (Limits p) e = absurd (true≢false e)
points-nowhere Owing e = refl
points-nowhere Misplaced e = refl
points-nowhere InUse e = refl
points-nowhere Missing e = refl
points-nowhere (Again p) e = absurd (true≢false e)
points-nowhere (Undeclared p) e = absurd (true≢false e)
points-nowhere (Past p) e = absurd (true≢false e)
points-nowhere (Unfit p) e = absurd (true≢false e)
points-nowhere Illegal e = refl
points-nowhere Misfit e = refl
points-nowhere Unset e = refl
points-nowhere RunsOut e = refl
points-nowhere FewPortions e = refl
points-nowhere NoEntry e = refl
points-nowhere Overlong e = refl
points-nowhere NoneOwed e = refl

-- so an answer that is none of the six points nowhere
pub other-nowhere :
    (a : Answer) →
    ((p : ℕ) → a ≡ Unwritten p → ⊥) →
    ((p : ℕ) → a ≡ Limits p → ⊥) →
    ((p : ℕ) → a ≡ Again p → ⊥) →
    ((p : ℕ) → a ≡ Undeclared p → ⊥) →
    ((p : ℕ) → a ≡ Past p → ⊥) →
    ((p : ℕ) → a ≡ Unfit p → ⊥) →
    points a ≡ false
unfolding points number_of
other-nowhere Taken u l g d s f = refl
other-nowhere Lengths u l g d s f = refl
other-nowhere Font u l g d s f = refl
other-nowhere Unsound u l g d s f = refl
other-nowhere Unended u l g d s f = refl
other-nowhere Long u l g d s f = refl
other-nowhere (Unwritten p) u l g d s f = absurd (u p refl)
other-nowhere (Limits p) u l g d s f = absurd (l p refl)
other-nowhere Owing u l g d s f = refl
other-nowhere Misplaced u l g d s f = refl
other-nowhere InUse u l g d s f = refl
other-nowhere Missing u l g d s f = refl
other-nowhere (Again p) u l g d s f = absurd (g p refl)
other-nowhere (Undeclared p) u l g d s f = absurd (d p refl)
other-nowhere (Past p) u l g d s f = absurd (s p refl)
other-nowhere (Unfit p) u l g d s f = absurd (f p refl)
other-nowhere Illegal u l g d s f = refl
other-nowhere Misfit u l g d s f = refl
other-nowhere Unset u l g d s f = refl
other-nowhere RunsOut u l g d s f = refl
other-nowhere FewPortions u l g d s f = refl
other-nowhere NoEntry u l g d s f = refl
other-nowhere Overlong u l g d s f = refl
other-nowhere NoneOwed u l g d s f = refl

-- ---- 6, 7 and 12 to 15, by number

-- a number's five ranges: below 6, 6 and 7, between, 12 to 15, above
module _ (n : ℕ) where
  pub none_below : n < 6 → false ≡ pointing n
  none_below h = rw (ne_eqb n 6 (λ z. omega (arith, h, z)), ne_eqb n 7 (λ z. omega (arith, h, z)), lt-leb 12 n (omega (arith, h)))

  pub six-and-seven : 6 ≤ n → n < 8 → true ≡ pointing n
  six-and-seven h k = elim (ℕ_discrete n 6) [
    | yes e ↦ rw e
    | no z ↦ let e : n ≡ 7 = omega (arith, h, k, z) in rw e
  ]

  pub none_between : 8 ≤ n → n < 12 → false ≡ pointing n
  none_between h k = rw (ne_eqb n 6 (λ z. omega (arith, h, z)), ne_eqb n 7 (λ z. omega (arith, h, z)), lt-leb 12 n (omega (arith, k)))

  pub twelve-on : 12 ≤ n → n < 16 → true ≡ pointing n
  twelve-on h k =
      rw (
        ne_eqb n 6 (λ z. omega (arith, h, z)),
        ne_eqb n 7 (λ z. omega (arith, h, z)),
        le-leb 12 n h,
        le-leb n 15 (omega (arith, k)),
      )

  pub none_above : 16 ≤ n → false ≡ pointing n
  none_above h =
      rw (
        ne_eqb n 6 (λ z. omega (arith, h, z)),
        ne_eqb n 7 (λ z. omega (arith, h, z)),
        le-leb 12 n (omega (arith, h)),
        lt-leb n 15 (omega (arith, h)),
      )
