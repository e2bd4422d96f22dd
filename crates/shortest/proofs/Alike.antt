-- How many symbols there are goes by which bytes are digits, and not by which digits they are: a counter that moves on leaves its bars as wide as they were.
-- Assumes nothing.
use mathlib.Core.Path.{◌≡◌, refl, sym, ap, ◌∙◌}
use mathlib.Core.Bool.{Bool, true, false, cond}
use mathlib.Core.List.{List, [], ◌∷◌, map}
use Prim.Native.Nat.{ℕ, ◌+◌}
use native.Mathlib.Omega.{arith}
use lib.ListN.{length, get_or, drop}
use lib.Dec.{ltb}
use Rattle.kinds.specs.declared.Kind.TheVariants.{Code128}
use Rattle.kinds.specs.Bytes.{is_digit}
use Rattle.kinds.specs.Fit.{fit}
use Rattle.shortest.specs.declared.plan.Lengths.{Lengths}
use Rattle.shortest.specs.Found.{Best, step, best, started, our_writing}
use Rattle.shortest.specs.Lengths.{Measured, lengthened}
use Rattle.shortest.proofs.Planning.{lengthened-by}
use Rattle.shortest.proofs.Ours.{ours-fit}

-- the same bytes are digits
abbrev pub SameDigits : List ℕ → List ℕ → Type 0
SameDigits s t = map is_digit s ≡ map is_digit t

lengths_of : Best → Lengths
lengths_of r = record { b = length r.in_b; c = length r.in_c; later = length r.later }

measured-one : (r : Best) (m : Lengths) → Measured r m → m ≡ lengths_of r
unfolding lengths_of
measured-one r m k = λ i. record { b = k.in_b i; c = k.in_c i; later = k.later i }

lengths-step : (a b : ℕ) (r : Best) → lengths_of (step a b r) ≡ lengthened a b (lengths_of r)
unfolding lengths_of
lengths-step a b r = sym (measured-one (step a b r) _ (lengthened-by a b (lengths_of r) r (record { in_b = refl; in_c = refl; later = refl })))

lengthened-alike : (a b c d : ℕ) (m : Lengths) → is_digit a ≡ is_digit c → is_digit b ≡ is_digit d → lengthened a b m ≡ lengthened c d m
lengthened-alike a b c d m p q = rw (p, q)

first_alike : (s t : List ℕ) → SameDigits s t → is_digit (get_or s 0 0) ≡ is_digit (get_or t 0 0)
first_alike [] [] e = refl
first_alike [] (b ∷ t) e = absurd (let n = ap length e in omega arith)
first_alike (a ∷ s) [] e = absurd (let n = ap length e in omega arith)
first_alike (a ∷ s) (b ∷ t) e = ap (λ l. get_or l 0 false) e

rest-alike : (a b : ℕ) (s t : List ℕ) → SameDigits (a ∷ s) (b ∷ t) → SameDigits s t
rest-alike a b s t e = ap (λ l. drop 1 l) e

lengths-alike : (s t : List ℕ) → SameDigits s t → lengths_of (best s) ≡ lengths_of (best t)
unfolding best
lengths-alike [] [] e = refl
lengths-alike [] (b ∷ t) e = absurd (let n = ap length e in omega arith)
lengths-alike (a ∷ s) [] e = absurd (let n = ap length e in omega arith)
lengths-alike (a ∷ s) (c ∷ t) e =
    lengths-step a (get_or s 0 0) (best s)
    ∙ ap (lengthened a (get_or s 0 0)) (lengths-alike s t (rest-alike a c s t e))
    ∙ lengthened-alike a (get_or s 0 0) c (get_or t 0 0) (lengths_of (best t)) (first_alike (a ∷ s) (c ∷ t) e) (first_alike s t (rest-alike a c s t e))
    ∙ sym (lengths-step c (get_or t 0 0) (best t))

-- how many symbols there are with the start, told by lengths
started_length : Lengths → ℕ
started_length m = cond (ltb m.c m.b) (1 + m.c) (1 + m.b)

length-started : (r : Best) → length (started r) ≡ started_length (lengths_of r)
unfolding started started_length lengths_of
length-started r = by (ltb (length r.in_c) (length r.in_b))
  where
    by : (t : Bool) → length (cond t (105 ∷ r.in_c) (104 ∷ r.in_b)) ≡ cond t (1 + length r.in_c) (1 + length r.in_b)
    by true = omega arith
    by false = omega arith

pub same_length : (s t : List ℕ) → fit Code128 s ≡ true → fit Code128 t ≡ true → SameDigits s t → length (our_writing s) ≡ length (our_writing t)
same_length s t h k e =
    ap length (ours-fit s h) ∙ length-started (best s) ∙ ap started_length (lengths-alike s t e) ∙ sym (length-started (best t)) ∙ ap length (sym (ours-fit t k))
