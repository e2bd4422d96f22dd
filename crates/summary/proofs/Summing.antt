-- The summary that is kept element by element decides as `judged` does.
use mathlib.Core.Path.{◌≡◌, refl, sym, ap, ◌∙◌}
use mathlib.Core.Bool.{Bool, true, false, ◌&&◌, and-true, and_assoc, and-false}
use mathlib.Core.List.{List, [], ◌∷◌}
use Prim.Native.Nat.{ℕ, ◌+◌, ◌<◌, min}
use native.Mathlib.Omega.{arith}
use native.Mathlib.Decide.{dec_le}
use lib.Dec.{leb}
use borrow.Author.Tests.{lt-leb, ne_eqb}
use Rattle.kinds.specs.declared.Kind.{Kind}
use Rattle.kinds.specs.declared.Kind.TheVariants.{Shown, Code39, Interleaved, Ean13, Code128}
use Rattle.kinds.specs.Fit.{fit_length}
use Rattle.elements.specs.declared.Element.{Element}
use Rattle.declarations.specs.declared.Declared.{Declared}
use Rattle.summary.specs.declared.Summary.{Summary as Sum}
use Rattle.summary.specs.Summary.{least_of, most_of, good_of, least, most, good, judged, up_to, summary, summary_of, joined, decided}

-- ---- lengths past 128

pub fit-long : (k : Kind) (n : ℕ) → 128 < n → fit_length k n ≡ false
unfolding fit_length
fit-long Shown n h = lt-leb n 128 h
fit-long Code39 n h = rw (lt-leb n 128 h) (and-false (leb 1 n))
fit-long Interleaved n h = rw (lt-leb n 128 h) (and-false (leb 2 n))
fit-long Ean13 n h = ne_eqb n 12 (λ e. omega arith)
fit-long Code128 n h = rw (lt-leb n 128 h) (and-false (leb 1 n))

pub fit-up_to : (k : Kind) (n : ℕ) → fit_length k (up_to n) ≡ fit_length k n
fit-up_to k n = elim (dec_le n 129) [
  | yes h ↦ ap (fit_length k) (let e : min 129 n ≡ n = omega arith in e)
  | no h ↦ fit-long k (up_to n) (omega arith) ∙ sym (fit-long k n (omega arith))
]

-- ---- the sums

-- the elements' summaries joined, one after another
abbrev pub summed : Kind → List ℕ → Declared → Sum → List Element → Sum
summed k line d s [] = s
summed k line d s (e ∷ es) = summed k line d (joined s (summary_of k line d e)) es

up_up : (a x : ℕ) → up_to (up_to a + x) ≡ up_to (a + x)
up_up a x = omega arith

summary-same : (a b a' b' : ℕ) (g g' : Bool) → a ≡ a' → b ≡ b' → g ≡ g' → summary a b g ≡ summary a' b' g'
summary-same a b a' b' g g' p q r = cc

pub summed-sums : (k : Kind) (line : List ℕ) (d : Declared) (a b : ℕ) (g : Bool) (es : List Element)
    → summed k line d (summary (up_to a) (up_to b) g) es ≡ summary (up_to (a + least line d es)) (up_to (b + most line d es)) (g && good k line d es)
unfolding summary_of
summed-sums k line d a b g [] =
    summary-same (up_to a) (up_to b) (up_to (a + 0)) (up_to (b + 0)) g (g && true) (omega arith) (omega arith) (sym (and-true g))
summed-sums k line d a b g (e ∷ es) =
    ap (λ (s : Sum). summed k line d s es) (summary-same (up_to (up_to a + least_of line d e e.what)) (up_to (up_to b + most_of line d e e.what)) (up_to (a + least_of line d e e.what)) (up_to (b + most_of line d e e.what)) (g && good_of k line d e e.what) (g && good_of k line d e e.what) (up_up a (least_of line d e e.what)) (up_up b (most_of line d e e.what)) refl)
    ∙ (summed-sums k line d (a + least_of line d e e.what) (b + most_of line d e e.what) (g && good_of k line d e e.what) es
    ∙ summary-same (up_to (a + least_of line d e e.what + least line d es)) (up_to (b + most_of line d e e.what + most line d es)) (up_to (a + (least_of line d e e.what + least line d es))) (up_to (b + (most_of line d e e.what + most line d es)))
    (g && good_of k line d e e.what && good k line d es) (g && (good_of k line d e e.what && good k line d es)) (omega arith) (omega arith) (and_assoc g (good_of k line d e e.what) (good k line d es)))

pub decided-judged : (k : Kind) (line : List ℕ) (d : Declared) (es : List Element) → decided (summed k line d (summary 0 0 true) es) k ≡ judged line d es k
unfolding judged
decided-judged k line d es =
    ap (λ (s : Sum). decided s k) (summed-sums k line d 0 0 true es)
    ∙ rw (fit-up_to k (0 + least line d es), fit-up_to k (0 + most line d es)) (plain (0 + least line d es) (0 + most line d es) (omega arith) (omega arith))
  where
    plain : (a b : ℕ) → a ≡ least line d es → b ≡ most line d es
        → (fit_length k a && (fit_length k b && good k line d es)) ≡ (fit_length k (least line d es) && (fit_length k (most line d es) && good k line d es))
    plain a b p q = rw (p, q)
