-- The main theorem: a line's data is judged fit exactly when every permitted set of values makes it fit.
use mathlib.Core.Path.{◌≡◌, refl, sym, ap, ◌∙◌}
use mathlib.Core.Bool.{Bool, true, false, ◌&&◌, ◌||◌, cond, false≢true, true≢false}
use mathlib.Core.List.{List, [], ◌∷◌}
use mathlib.Core.Logic.{◌↔◌, ⊎_elim}
use Prim.Native.Char.{code}
use Prim.Native.Nat.{ℕ, zero, suc, ◌+◌, ◌/◌, ◌%◌, ◌^◌, ◌≤◌}
use native.Mathlib.Nat.{one-le-pow}
use native.Mathlib.Omega.{arith}
use lib.ListN.{length, replicate, length-append, length-replicate}
use lib.Dec.{leb, eqb}
use borrow.Author.Tests.{le-leb, leb-true, eq-eqb, eqb-true}
use Rattle.kinds.specs.declared.Kind.{Kind}
use Rattle.kinds.specs.declared.Kind.TheVariants.{Shown, Code39, Interleaved, Ean13, Code128}
use Rattle.kinds.specs.Bytes.{between, is_digit, all_in}
use Rattle.kinds.specs.Fit.{in_class, fit_length, fit}
use Rattle.calendar.specs.Clock.{fresh}
use Rattle.formats.specs.Formats.{format_of}
use Rattle.elements.specs.declared.Part.{Part}
use Rattle.elements.specs.declared.What.{What}
use Rattle.elements.specs.declared.What.TheVariants.{Text, Variable, Counter, Stamped}
use Rattle.elements.specs.declared.Element.{Element}
use Rattle.declarations.specs.declared.Declared.{Declared}
use Rattle.declarations.specs.Declarations.{length_at, side_at, width_at}
use Rattle.counters.specs.Counters.{digits}
use Rattle.padding.specs.Padding.{legal, fits}
use Rattle.summary.specs.Data.{part_of, piece_from, piece_of, piece_at, Values, value_of, assembled}
use Rattle.padding.proofs.Ranges.{in-range, range-low, range-high, all_join, all_first, all-second, all_none, all-wider, all_replicate, replicate-some}
use Rattle.calendar.proofs.Clocks.{fresh-legal}
use Rattle.stamps.proofs.Shown.{length-stamp, digit-in, stamp-in}
use Rattle.counters.proofs.Tens.{length_digits}
use Rattle.padding.proofs.Padded.{zero-digit}
use Rattle.ground.proofs.Tests.{or-first, or-second, and_left, and_right, and_both}
use Rattle.fitness.specs.Permitted.{Permitted, AlwaysFit}
use Rattle.summary.specs.Summary.{part_length, fewest, least_of, most_of, takes_all, good_of, least, most, good, judged}
use Rattle.fitness.proofs.Parts.{length_part, all-part, part-replicate, part-grows}

-- ---- classes

legal-range : (b : ℕ) (x y : Bool) → between 32 33 b ≡ x → between 35 126 b ≡ y → (x || y) ≡ true → between 32 126 b ≡ true
legal-range b true y p q h = in-range 32 126 b (omega (arith, range-low 32 33 b p)) (omega (arith, range-high 32 33 b p))
legal-range b false true p q h = in-range 32 126 b (omega (arith, range-low 35 126 b q)) (omega (arith, range-high 35 126 b q))
legal-range b false false p q h = absurd (false≢true h)

pub legal-in : (c : Kind) → takes_all c ≡ true → (b : ℕ) → legal b ≡ true → in_class c b ≡ true
unfolding in_class
legal-in Shown t b h = refl
legal-in Code39 t b h = absurd (false≢true t)
legal-in Interleaved t b h = absurd (false≢true t)
legal-in Ean13 t b h = absurd (false≢true t)
legal-in Code128 t b h = legal-range b (between 32 33 b) (between 35 126 b) refl refl h

pub digit-legal : (b : ℕ) → is_digit b ≡ true → legal b ≡ true
digit-legal b h =
    or-second (between 32 33 b) (between 35 126 b) (in-range 35 126 b (omega (arith, range-low 48 57 b h)) (omega (arith, range-high 48 57 b h)))

-- the star is legal, and of a kind's class exactly when every legal byte is
pub star-in : (c : Kind) → in_class c (code "*") ≡ takes_all c
unfolding in_class between
star-in Shown = refl
star-in Code39 = refl
star-in Interleaved = refl
star-in Ean13 = refl
star-in Code128 = refl

star-legal : legal (code "*") ≡ true
unfolding between
star-legal = refl

-- a counter shows digits alone
one-digit : (x : ℕ) → is_digit (48 + x % 10) ≡ true
one-digit x = in-range 48 57 (48 + x % 10) (omega arith) (omega arith)

all_digits : (w n : ℕ) → all_in is_digit (digits w n) ≡ true
unfolding digits
all_digits zero n = refl
all_digits (suc w) n = and_both (is_digit (48 + n / 10 ^ w % 10)) (all_in is_digit (digits w n)) (one-digit (n / 10 ^ w)) (all_digits w n)

-- ---- lengths

-- between two fit lengths every length is fit, where they are equal or the kind takes all
pub length-between : (k : Kind) (a n b : ℕ) → a ≤ n → n ≤ b → fit_length k a ≡ true → fit_length k b ≡ true → (takes_all k ≡ false → a ≡ b) → fit_length k n ≡ true
unfolding fit_length
length-between Shown a n b p q f g s = le-leb n 128 (omega (arith, leb-true b 128 g))
length-between Code39 a n b p q f g s = let e : n ≡ a = omega (arith, s refl) in rw e f
length-between Interleaved a n b p q f g s = let e : n ≡ a = omega (arith, s refl) in rw e f
length-between Ean13 a n b p q f g s = let e : n ≡ a = omega (arith, s refl) in rw e f
length-between Code128 a n b p q f g s =
    and_both (leb 1 n) (leb n 128) (le-leb 1 n (omega (arith, leb-true 1 a (and_left (leb 1 a) (leb a 128) f))))
    (le-leb n 128 (omega (arith, leb-true b 128 (and_right (leb 1 b) (leb b 128) g))))

-- ---- what a fitting value is

pub record Fitting (side m : ℕ) (v : List ℕ) : Type 0 where
  pub at_least : fewest side m ≤ length v
  pub at_most : length v ≤ m
  pub legals : all_in legal v ≡ true
  pub digits_only : eqb side (code "Z") ≡ true → all_in is_digit v ≡ true

pub fits-facts : (side m : ℕ) (v : List ℕ) → fits side m v ≡ true → Fitting side m v
unfolding fits
fits-facts side m v h = go (eqb side (code "N")) (eqb side (code "Z")) refl refl h
  where
    go : (a b : Bool) → eqb side (code "N") ≡ a → eqb side (code "Z") ≡ b
        → cond a (leb (length v) m && all_in legal v) (cond b (eqb (length v) m && all_in is_digit v) (eqb (length v) m && all_in legal v)) ≡ true
        → Fitting side m v
    go true b p q f = record {
      at_least = rw p (omega arith);
      at_most = leb-true (length v) m (and_left (leb (length v) m) (all_in legal v) f);
      legals = and_right (leb (length v) m) (all_in legal v) f;
      digits_only = λ z. absurd (omega (arith, eqb-true side (code "N") p, eqb-true side (code "Z") z));
    }
    go false true p q f =
        let e = eqb-true (length v) m (and_left (eqb (length v) m) (all_in is_digit v) f) in
        record {
          at_least = rw p (omega arith);
          at_most = omega arith;
          legals = all-wider is_digit legal v digit-legal (and_right (eqb (length v) m) (all_in is_digit v) f);
          digits_only = λ z. and_right (eqb (length v) m) (all_in is_digit v) f;
        }
    go false false p q f =
        let e = eqb-true (length v) m (and_left (eqb (length v) m) (all_in legal v) f) in
        record {
          at_least = rw p (omega arith);
          at_most = omega arith;
          legals = and_right (eqb (length v) m) (all_in legal v) f;
          digits_only = λ z. absurd (false≢true (sym q ∙ z));
        }

-- ---- the two extremes: every variable as short as it may be, and as long. One clock serves both: no clock shows more bytes than another, or of other classes

pub low_value : ℕ → ℕ → List ℕ
low_value side m = cond (eqb side (code "N")) [] (cond (eqb side (code "Z")) (replicate m (code "0")) (replicate m (code "*")))

pub high_value : ℕ → ℕ → List ℕ
high_value side m = cond (eqb side (code "Z")) (replicate m (code "0")) (replicate m (code "*"))

pub low : Declared → Values
low d = record { variable = λ k. low_value (side_at d k) (length_at d k); counter = λ k. 0; clock = fresh }

pub high : Declared → Values
high d = record { variable = λ k. high_value (side_at d k) (length_at d k); counter = λ k. 0; clock = fresh }

all_same : (q : ℕ → Bool) (m x : ℕ) → q x ≡ true → (eqb (length (replicate m x)) m && all_in q (replicate m x)) ≡ true
all_same q m x h = and_both (eqb (length (replicate m x)) m) (all_in q (replicate m x)) (eq-eqb (length (replicate m x)) m (length-replicate m x)) (all_replicate q m x h)

at-most-same : (q : ℕ → Bool) (m x : ℕ) → q x ≡ true → (leb (length (replicate m x)) m && all_in q (replicate m x)) ≡ true
at-most-same q m x h = and_both (leb (length (replicate m x)) m) (all_in q (replicate m x)) (le-leb (length (replicate m x)) m (omega (arith, length-replicate m x))) (all_replicate q m x h)

low_fits : (side m : ℕ) → fits side m (low_value side m) ≡ true
unfolding fits low_value
low_fits side m = go (eqb side (code "N")) (eqb side (code "Z")) refl refl
  where
    go : (a b : Bool) → eqb side (code "N") ≡ a → eqb side (code "Z") ≡ b → fits side m (low_value side m) ≡ true
    go true b p q = rw p (and_both (leb 0 m) true (le-leb 0 m (omega arith)) refl)
    go false true p q = rw (p, q) (all_same is_digit m 48 zero-digit)
    go false false p q = rw (p, q) (all_same legal m (code "*") star-legal)

high_fits : (side m : ℕ) → fits side m (high_value side m) ≡ true
unfolding fits high_value
high_fits side m = go (eqb side (code "N")) (eqb side (code "Z")) refl refl
  where
    go : (a b : Bool) → eqb side (code "N") ≡ a → eqb side (code "Z") ≡ b → fits side m (high_value side m) ≡ true
    go true true p q = absurd (omega (arith, eqb-true side (code "N") p, eqb-true side (code "Z") q))
    go true false p q = rw (p, q) (at-most-same legal m (code "*") star-legal)
    go false true p q = rw (p, q) (all_same is_digit m 48 zero-digit)
    go false false p q = rw (p, q) (all_same legal m (code "*") star-legal)

pub low-permitted : (d : Declared) → Permitted d (low d)
unfolding low
low-permitted d = record { variables = λ k. low_fits (side_at d k) (length_at d k); counters = λ k. one-le-pow (width_at d k) 10 (omega arith); clock = fresh-legal }

pub high-permitted : (d : Declared) → Permitted d (high d)
unfolding high
high-permitted d = record { variables = λ k. high_fits (side_at d k) (length_at d k); counters = λ k. one-le-pow (width_at d k) 10 (omega arith); clock = fresh-legal }

low-length : (side m : ℕ) → length (low_value side m) ≡ fewest side m
unfolding low_value
low-length side m = go (eqb side (code "N")) (eqb side (code "Z")) refl refl
  where
    go : (a b : Bool) → eqb side (code "N") ≡ a → eqb side (code "Z") ≡ b → length (low_value side m) ≡ fewest side m
    go true b p q = rw p
    go false true p q = rw (p, q) (length-replicate m (code "0"))
    go false false p q = rw (p, q) (length-replicate m (code "*"))

high-length : (side m : ℕ) → length (high_value side m) ≡ m
unfolding high_value
high-length side m = go (eqb side (code "Z")) refl
  where
    go : (b : Bool) → eqb side (code "Z") ≡ b → length (high_value side m) ≡ m
    go true q = rw q (length-replicate m (code "0"))
    go false q = rw q (length-replicate m (code "*"))

-- ---- one element

-- the piece that an element gives, by what it is
abbrev piece_by : List ℕ → Declared → Values → Element → What → List ℕ
piece_by line d v e w = piece_from w line (value_of d v w) e

module _ (line : List ℕ) (d : Declared) (v : Values) (h : Permitted d v) (e : Element) where
  fact : (k : ℕ) → Fitting (side_at d k) (length_at d k) (v.variable k)
  fact k = fits-facts (side_at d k) (length_at d k) (v.variable k) (h.variables k)

  pub piece-least : (w : What) → least_of line d e w ≤ length (piece_by line d v e w)
  piece-least Text = omega arith
  piece-least (Variable k p) = rw length_part (part-grows p (fewest (side_at d k) (length_at d k)) (length (v.variable k)) (fact k).at_least)
  piece-least (Counter k p) = rw (length_part, length_digits) (omega arith)
  piece-least (Stamped st) = omega (arith, length-stamp st v.clock (format_of d.formats st))

  pub piece-most : (w : What) → length (piece_by line d v e w) ≤ most_of line d e w
  piece-most Text = omega arith
  piece-most (Variable k p) = rw length_part (part-grows p (length (v.variable k)) (length_at d k) (fact k).at_most)
  piece-most (Counter k p) = rw (length_part, length_digits) (omega arith)
  piece-most (Stamped st) = omega (arith, length-stamp st v.clock (format_of d.formats st))

  variable-good : (c : Kind) (k : ℕ) (p : Part) (t z n : Bool) → takes_all c ≡ t → eqb (side_at d k) (code "Z") ≡ z → eqb (part_length p (length_at d k)) 0 ≡ n
      → (t || (z || n)) ≡ true → all_in (in_class c) (part_of p (v.variable k)) ≡ true
  variable-good c k p true z n et ez en g = all-part (in_class c) p (v.variable k) (all-wider legal (in_class c) (v.variable k) (legal-in c et) (fact k).legals)
  variable-good c k p false true n et ez en g = all-part (in_class c) p (v.variable k) (all-wider is_digit (in_class c) (v.variable k) (digit-in c) ((fact k).digits_only ez))
  variable-good c k p false false true et ez en g =
      all_none (in_class c) (part_of p (v.variable k))
      (omega (arith, length_part p (v.variable k), part-grows p (length (v.variable k)) (length_at d k) (fact k).at_most, eqb-true (part_length p (length_at d k)) 0 en))
  variable-good c k p false false false et ez en g = absurd (false≢true g)

  pub piece-good : (c : Kind) (w : What) → good_of c line d e w ≡ true → all_in (in_class c) (piece_by line d v e w) ≡ true
  piece-good c Text g = g
  piece-good c (Variable k p) g = variable-good c k p (takes_all c) (eqb (side_at d k) (code "Z")) (eqb (part_length p (length_at d k)) 0) refl refl refl g
  piece-good c (Counter k p) g =
      all-part (in_class c) p (digits (width_at d k) (v.counter k))
      (all-wider is_digit (in_class c) (digits (width_at d k) (v.counter k)) (digit-in c) (all_digits (width_at d k) (v.counter k)))
  piece-good c (Stamped st) g = stamp-in c st v.clock (format_of d.formats st) h.clock ∙ g

-- of a strict kind a good element has one length
variable-steady : (d : Declared) (k : ℕ) (p : Part) (a z n : Bool) → eqb (side_at d k) (code "N") ≡ a → eqb (side_at d k) (code "Z") ≡ z → eqb (part_length p (length_at d k)) 0 ≡ n
    → (z || n) ≡ true → part_length p (fewest (side_at d k) (length_at d k)) ≡ part_length p (length_at d k)
variable-steady d k p false z n ea ez en g = rw ea
variable-steady d k p true true n ea ez en g = absurd (omega (arith, eqb-true (side_at d k) (code "N") ea, eqb-true (side_at d k) (code "Z") ez))
variable-steady d k p true false true ea ez en g = rw ea (omega (arith, part-grows p 0 (length_at d k) (omega arith), eqb-true (part_length p (length_at d k)) 0 en))
variable-steady d k p true false false ea ez en g = absurd (false≢true g)

pub piece-steady : (line : List ℕ) (d : Declared) (e : Element) (c : Kind) → takes_all c ≡ false → (w : What) → good_of c line d e w ≡ true → least_of line d e w ≡ most_of line d e w
piece-steady line d e c s Text g = refl
piece-steady line d e c s (Variable k p) g =
    variable-steady d k p (eqb (side_at d k) (code "N")) (eqb (side_at d k) (code "Z")) (eqb (part_length p (length_at d k)) 0) refl refl refl (rw s at g)
piece-steady line d e c s (Counter k p) g = refl
piece-steady line d e c s (Stamped st) g = refl

module _ (line : List ℕ) (d : Declared) (e : Element) where
  pub piece-low : (w : What) → length (piece_by line d (low d) e w) ≡ least_of line d e w
  unfolding low
  piece-low Text = refl
  piece-low (Variable k p) = rw (length_part, low-length)
  piece-low (Counter k p) = rw (length_part, length_digits)
  piece-low (Stamped st) = length-stamp st fresh (format_of d.formats st)

  pub piece-high : (w : What) → length (piece_by line d (high d) e w) ≡ most_of line d e w
  unfolding high
  piece-high Text = refl
  piece-high (Variable k p) = rw (length_part, high-length)
  piece-high (Counter k p) = rw (length_part, length_digits)
  piece-high (Stamped st) = length-stamp st fresh (format_of d.formats st)

  variable-high : (c : Kind) (k : ℕ) (p : Part) (z : Bool) → eqb (side_at d k) (code "Z") ≡ z → all_in (in_class c) (part_of p (high_value (side_at d k) (length_at d k))) ≡ true
      → good_of c line d e (Variable k p) ≡ true
  unfolding high_value
  variable-high c k p true ez g = or-second (takes_all c) (eqb (side_at d k) (code "Z") || eqb (part_length p (length_at d k)) 0) (or-first (eqb (side_at d k) (code "Z")) (eqb (part_length p (length_at d k)) 0) ez)
  variable-high c k p false ez g = ⊎_elim
      (λ (e : part_length p (length_at d k) ≡ 0). or-second (takes_all c) (eqb (side_at d k) (code "Z") || eqb (part_length p (length_at d k)) 0)
      (or-second (eqb (side_at d k) (code "Z")) (eqb (part_length p (length_at d k)) 0) (eq-eqb (part_length p (length_at d k)) 0 e)))
      (λ (e : in_class c (code "*") ≡ true). or-first (takes_all c) (eqb (side_at d k) (code "Z") || eqb (part_length p (length_at d k)) 0) (sym (star-in c) ∙ e))
      (replicate-some (in_class c) (part_length p (length_at d k)) (code "*") (rw (ez, part-replicate) at g))

  pub good-high : (c : Kind) (w : What) → all_in (in_class c) (piece_by line d (high d) e w) ≡ true → good_of c line d e w ≡ true
  unfolding high
  good-high c Text g = g
  good-high c (Variable k p) g = variable-high c k p (eqb (side_at d k) (code "Z")) refl g
  good-high c (Counter k p) g = refl
  good-high c (Stamped st) g = sym (stamp-in c st fresh (format_of d.formats st) fresh-legal) ∙ g

-- ---- all elements

module _ (line : List ℕ) (d : Declared) where
  pub all-least : (v : Values) → Permitted d v → (es : List Element) → least line d es ≤ length (assembled line d v es)
  unfolding piece_of
  all-least v h [] = omega arith
  all-least v h (e ∷ es) = rw length-append (omega (arith, piece-least line d v h e e.what, all-least v h es))

  pub all_most : (v : Values) → Permitted d v → (es : List Element) → length (assembled line d v es) ≤ most line d es
  unfolding piece_of
  all_most v h [] = omega arith
  all_most v h (e ∷ es) = rw length-append (omega (arith, piece-most line d v h e e.what, all_most v h es))

  pub all-good : (v : Values) → Permitted d v → (c : Kind) (es : List Element) → good c line d es ≡ true → all_in (in_class c) (assembled line d v es) ≡ true
  unfolding piece_of
  all-good v h c [] g = refl
  all-good v h c (e ∷ es) g =
      all_join (in_class c) (piece_at line d v e) (assembled line d v es) (piece-good line d v h e c e.what (and_left (good_of c line d e e.what) (good c line d es) g))
      (all-good v h c es (and_right (good_of c line d e e.what) (good c line d es) g))

  pub all-steady : (c : Kind) → takes_all c ≡ false → (es : List Element) → good c line d es ≡ true → least line d es ≡ most line d es
  all-steady c s [] g = refl
  all-steady c s (e ∷ es) g =
      omega (arith, piece-steady line d e c s e.what (and_left (good_of c line d e e.what) (good c line d es) g), all-steady c s es (and_right (good_of c line d e e.what) (good c line d es) g))

  pub all-low : (es : List Element) → length (assembled line d (low d) es) ≡ least line d es
  unfolding piece_of
  all-low [] = refl
  all-low (e ∷ es) = rw length-append (omega (arith, piece-low line d e e.what, all-low es))

  pub all-high : (es : List Element) → length (assembled line d (high d) es) ≡ most line d es
  unfolding piece_of
  all-high [] = refl
  all-high (e ∷ es) = rw length-append (omega (arith, piece-high line d e e.what, all-high es))

  pub all-good-high : (c : Kind) (es : List Element) → all_in (in_class c) (assembled line d (high d) es) ≡ true → good c line d es ≡ true
  unfolding piece_of
  all-good-high c [] g = refl
  all-good-high c (e ∷ es) g =
      and_both (good_of c line d e e.what) (good c line d es) (good-high line d e c e.what (all_first (in_class c) (piece_at line d (high d) e) (assembled line d (high d) es) g))
      (all-good-high c es (all-second (in_class c) (piece_at line d (high d) e) (assembled line d (high d) es) g))

-- ---- the theorem

module _ (line : List ℕ) (d : Declared) (es : List Element) (k : Kind) where
  pub judged-always : judged line d es k ≡ true → AlwaysFit line d es k
  unfolding judged fit
  judged-always j v h =
      let a = and_left (fit_length k (least line d es)) (fit_length k (most line d es) && good k line d es) j in
      let r = and_right (fit_length k (least line d es)) (fit_length k (most line d es) && good k line d es) j in
      let b = and_left (fit_length k (most line d es)) (good k line d es) r in
      let g = and_right (fit_length k (most line d es)) (good k line d es) r in
      and_both (fit_length k (length (assembled line d v es))) (all_in (in_class k) (assembled line d v es))
      (length-between k (least line d es) (length (assembled line d v es)) (most line d es) (all-least line d v h es) (all_most line d v h es) a b (λ s. all-steady line d k s es g))
      (all-good line d v h k es g)

  -- the two extremes decide
  pub extremes-judged : fit k (assembled line d (low d) es) ≡ true → fit k (assembled line d (high d) es) ≡ true → judged line d es k ≡ true
  unfolding judged fit
  extremes-judged f g =
      let a = and_left (fit_length k (length (assembled line d (low d) es))) (all_in (in_class k) (assembled line d (low d) es)) f in
      let b = and_left (fit_length k (length (assembled line d (high d) es))) (all_in (in_class k) (assembled line d (high d) es)) g in
      let t = and_right (fit_length k (length (assembled line d (high d) es))) (all_in (in_class k) (assembled line d (high d) es)) g in
      and_both (fit_length k (least line d es)) (fit_length k (most line d es) && good k line d es) (ap (fit_length k) (sym (all-low line d es)) ∙ a)
      (and_both (fit_length k (most line d es)) (good k line d es) (ap (fit_length k) (sym (all-high line d es)) ∙ b) (all-good-high line d k es t))

  pub always-judged : AlwaysFit line d es k → judged line d es k ≡ true
  always-judged f = extremes-judged (f (low d) (low-permitted d)) (f (high d) (high-permitted d))

  pub judged-iff-always : (judged line d es k ≡ true) ↔ AlwaysFit line d es k
  judged-iff-always = (judged-always, always-judged)

  -- a line that is judged unfit has permitted values that make it so
  pub unfit-witness : judged line d es k ≡ false → (v : Values) × Permitted d v × (fit k (assembled line d v es) ≡ false)
  unfit-witness j = go (fit k (assembled line d (low d) es)) (fit k (assembled line d (high d) es)) refl refl
    where
      go : (a b : Bool) → fit k (assembled line d (low d) es) ≡ a → fit k (assembled line d (high d) es) ≡ b
          → (v : Values) × Permitted d v × (fit k (assembled line d v es) ≡ false)
      go false b p q = (low d, low-permitted d, p)
      go true false p q = (high d, high-permitted d, q)
      go true true p q = absurd (true≢false (sym (extremes-judged p q) ∙ j))

  -- refused exactly when some permitted values make the data unfit
  pub refused-iff-unfit : (judged line d es k ≡ false) ↔ ((v : Values) × Permitted d v × (fit k (assembled line d v es) ≡ false))
  refused-iff-unfit = (unfit-witness, λ w. go (judged line d es k) refl w)
    where
      go : (b : Bool) → judged line d es k ≡ b → ((v : Values) × Permitted d v × (fit k (assembled line d v es) ≡ false)) → b ≡ false
      go false p w = refl
      go true p w = absurd (true≢false (sym (judged-always p w.0 w.1) ∙ w.2))
