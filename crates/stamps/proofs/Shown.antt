-- The main theorems on texts: how long a format's text is, and whether all its bytes are of a kind's class, is said by the format alone.
use mathlib.Core.Path.{◌≡◌, refl, sym, ap, ◌∙◌}
use mathlib.Core.Bool.{Bool, true, false, cond, ◌&&◌, ◌||◌, not, and_assoc, or-true}
use mathlib.Core.List.{List, [], ◌∷◌, ◌++◌}
use mathlib.Core.Logic.{◌↔◌}
use Prim.Native.Nat.{ℕ, zero, suc, ◌+◌, ◌-◌, ◌*◌, ◌/◌, ◌%◌, ◌≤◌, ◌<◌}
use native.Mathlib.Decide.{ℕ_discrete}
use native.Mathlib.Omega.{arith}
use lib.ListN.{length, get_or, take, length-append}
use lib.Dec.{eqb}
use borrow.Author.Tests.{ne_eqb, lt-leb}
use Rattle.kinds.specs.declared.Kind.{Kind}
use Rattle.kinds.specs.declared.Kind.TheVariants.{Shown, Code39, Interleaved, Ean13, Code128}
use Rattle.kinds.specs.Bytes.{between, is_digit, all_in}
use Rattle.kinds.specs.Fit.{in_class, fit_length, fit}
use Rattle.kinds.proofs.Laws.{between-from, letter-39}
use Rattle.calendar.specs.declared.Clock.{Clock}
use Rattle.formats.specs.declared.Format.{Format}
use Rattle.formats.specs.declared.Stamp.{Stamp}
use Rattle.formats.specs.declared.Stamp.TheVariants.{Date, Time}
use Rattle.calendar.specs.Clock.{legal_clock, fresh}
use Rattle.formats.specs.Formats.{unit, new_unit, separator, absent, further, legal_format}
use Rattle.stamps.specs.Texts.{two_digits, months, month_letter, month_name, date_shown, time_shown, shown, marked, stamp_text}
use Rattle.stamps.specs.Laying.{laid, added_all}
use Rattle.stamps.specs.Always.{AlwaysIn, length_of, marked_length, stamp_length, good_field, good_marked, stamp_good}
use Rattle.ground.proofs.Tests.{and_left, and_right}
use Rattle.padding.proofs.Ranges.{in-range, range-low, range-high}
use Rattle.calendar.proofs.Clocks.{Legal, legal-facts, fresh-legal}
use Rattle.stamps.proofs.Laying.{three-laid, laid-front}

-- ---- lengths

length-cond : (b : Bool) (x y : List ℕ) → length (cond b x y) ≡ cond b (length x) (length y)
length-cond true x y = refl
length-cond false x y = refl

pub length-shown : (st : Stamp) (c : Clock) (x : ℕ) → length (shown st c x) ≡ length_of st x
unfolding date_shown time_shown two_digits month_name length_of
length-shown Date c x = simp length-cond
length-shown Time c x = simp length-cond

length_marked : (st : Stamp) (c : Clock) (m x : ℕ) → length (marked st c m x) ≡ marked_length st x
unfolding marked
length_marked st c m x = go (eqb x 0)
  where
    go : (b : Bool) → length (cond b [] (m ∷ shown st c x)) ≡ cond b 0 (1 + length_of st x)
    go true = refl
    go false = let e = length-shown st c x in omega arith

-- a text's length is said by its format, whatever the clock says
pub length-stamp : (st : Stamp) (c : Clock) (f : Format) → length (stamp_text st c f) ≡ stamp_length st f
unfolding stamp_text stamp_length
length-stamp st c f =
    length-append (shown st c f.first) (marked st c f.mark1 f.second ++ marked st c f.mark2 f.third)
    ∙ rw (length-append (marked st c f.mark1 f.second) (marked st c f.mark2 f.third), length-shown st c f.first, length_marked st c f.mark1 f.second, length_marked st c f.mark2 f.third)

cond-most : (b : Bool) (x y : ℕ) → x ≤ 4 → y ≤ 4 → cond b x y ≤ 4
cond-most true x y p q = p
cond-most false x y p q = q

pub field-most : (st : Stamp) (x : ℕ) → length_of st x ≤ 4
unfolding length_of
field-most Date x =
    cond-most (eqb x 1) 2 _ (omega arith)
    (cond-most (eqb x 2) 4 _ (omega arith)
    (cond-most (eqb x 3) 3 _ (omega arith) (cond-most (eqb x 4) 2 _ (omega arith) (cond-most (eqb x 5) 2 0 (omega arith) (omega arith)))))
field-most Time x = cond-most (eqb x 1) 2 _ (omega arith) (cond-most (eqb x 2) 2 _ (omega arith) (cond-most (eqb x 3) 2 0 (omega arith) (omega arith)))

pub marked-most : (st : Stamp) (x : ℕ) → marked_length st x ≤ 5
marked-most st x = go (eqb x 0)
  where
    go : (b : Bool) → cond b 0 (1 + length_of st x) ≤ 5
    go true = omega arith
    go false = omega (arith, field-most st x)

pub stamp-most : (st : Stamp) (f : Format) → stamp_length st f ≤ 14
unfolding stamp_length
stamp-most st f = omega (arith, field-most st f.first, marked-most st f.second, marked-most st f.third)

-- a stamp's text is laid field by field
pub stamp-laid : (st : Stamp) (c : Clock) (f : Format)
    → added_all (added_all (added_all (laid []) (shown st c f.first)) (marked st c f.mark1 f.second)) (marked st c f.mark2 f.third) ≡ laid (stamp_text st c f)
unfolding stamp_text
stamp-laid st c f =
    three-laid (shown st c f.first) (marked st c f.mark1 f.second) (marked st c f.mark2 f.third)
    (omega (arith, length-stamp st c f, stamp-most st f))

-- and stands at the front of the bytes laid
pub stamp-front : (st : Stamp) (c : Clock) (f : Format) → take (laid (stamp_text st c f)).length (laid (stamp_text st c f)).bytes ≡ stamp_text st c f
stamp-front st c f = laid-front (stamp_text st c f) (omega (arith, length-stamp st c f, stamp-most st f))

-- ---- classes

-- every kind takes digits
pub digit-in : (k : Kind) (b : ℕ) → is_digit b ≡ true → in_class k b ≡ true
unfolding in_class
digit-in Shown b h = refl
digit-in Code39 b h = rw h
digit-in Interleaved b h = h
digit-in Ean13 b h = h
digit-in Code128 b h = in-range 32 126 b (omega (arith, range-low 48 57 b h)) (omega (arith, range-high 48 57 b h))

above-digits : (b : ℕ) → 65 ≤ b → is_digit b ≡ false
above-digits b h = between-from 48 57 b (omega arith) ∙ lt-leb b 57 (omega arith)

-- a kind takes every capital, or none
pub capital-in : (k : Kind) (b : ℕ) → between 65 90 b ≡ true → in_class k b ≡ in_class k 65
unfolding in_class between
capital-in Shown b h = refl
capital-in Code39 b h = letter-39 b h
capital-in Interleaved b h = above-digits b (range-low 65 90 b h)
capital-in Ean13 b h = above-digits b (range-low 65 90 b h)
capital-in Code128 b h = in-range 32 126 b (omega (arith, range-low 65 90 b h)) (omega (arith, range-high 65 90 b h))

all_append : (q : ℕ → Bool) (a b : List ℕ) → all_in q (a ++ b) ≡ (all_in q a && all_in q b)
all_append q [] b = refl
all_append q (x ∷ a) b = ap (λ (t : Bool). q x && t) (all_append q a b) ∙ sym (and_assoc (q x) (all_in q a) (all_in q b))

all-at : (q : ℕ → Bool) (l : List ℕ) (i : ℕ) → all_in q l ≡ true → i < length l → q (get_or l i 0) ≡ true
all-at q [] i h b = absurd (omega arith)
all-at q (x ∷ l) zero h b = and_left (q x) (all_in q l) h
all-at q (x ∷ l) (suc i) h b = all-at q l i (and_right (q x) (all_in q l) h) (omega arith)

all-cond : (q : ℕ → Bool) (b : Bool) (x y : List ℕ) → all_in q x ≡ true → all_in q y ≡ true → all_in q (cond b x y) ≡ true
all-cond q true x y p r = p
all-cond q false x y p r = r

-- ---- a field

one-digit : (x : ℕ) → is_digit (48 + x % 10) ≡ true
one-digit x = in-range 48 57 (48 + x % 10) (omega arith) (omega arith)

two_in : (k : Kind) (n : ℕ) → all_in (in_class k) (two_digits n) ≡ true
unfolding two_digits
two_in k n = rw (digit-in k (48 + n / 10 % 10) (one-digit (n / 10)), digit-in k (48 + n % 10) (one-digit n))

four-in : (k : Kind) (n : ℕ) → all_in (in_class k) (50 ∷ 48 ∷ two_digits n) ≡ true
unfolding between
four-in k n = rw (digit-in k 50 refl, digit-in k 48 refl) (two_in k n)

all-months : all_in (between 65 90) months ≡ true
unfolding months between
all-months = refl

length-months : length months ≡ 36
unfolding months
length-months = refl

thrice : (b : Bool) → (b && (b && (b && true))) ≡ b
thrice true = refl
thrice false = refl

name_in : (k : Kind) (m : ℕ) → 1 ≤ m → m ≤ 12 → all_in (in_class k) (month_name m) ≡ in_class k 65
unfolding month_name
name_in k m low high = rw (letter 0 (omega arith), letter 1 (omega arith), letter 2 (omega arith)) (thrice (in_class k 65))
  where
    letter : (i : ℕ) → i ≤ 2 → in_class k (month_letter m i) ≡ in_class k 65
    letter i h = capital-in k (month_letter m i) (all-at (between 65 90) months (3 * (m - 1) + i) all-months (omega (arith, length-months)))

module _ (k : Kind) (c : Clock) (l : Legal c) where
  date-in : (x : ℕ) → all_in (in_class k) (date_shown c x) ≡ good_field k Date x
  unfolding date_shown good_field
  date-in x = elim (ℕ_discrete x 3) [
    | yes e ↦ rw e (name_in k c.month l.month_low l.month_high)
    | no e ↦ rw (ne_eqb x 3 e)
        (all-cond (in_class k) (eqb x 1) (two_digits c.year) _ (two_in k c.year)
        (all-cond (in_class k) (eqb x 2) (50 ∷ 48 ∷ two_digits c.year) _ (four-in k c.year)
        (all-cond (in_class k) (eqb x 4) (two_digits c.month) _ (two_in k c.month)
        (all-cond (in_class k) (eqb x 5) (two_digits c.day) [] (two_in k c.day) refl))))
  ]

  shown-in : (st : Stamp) (x : ℕ) → all_in (in_class k) (shown st c x) ≡ good_field k st x
  unfolding time_shown good_field
  shown-in Date x = date-in x
  shown-in Time x =
      all-cond (in_class k) (eqb x 1) (two_digits c.hour) _ (two_in k c.hour)
      (all-cond (in_class k) (eqb x 2) (two_digits c.minute) _ (two_in k c.minute)
      (all-cond (in_class k) (eqb x 3) (two_digits c.second) [] (two_in k c.second) refl))

  marked-in : (st : Stamp) (m x : ℕ) → all_in (in_class k) (marked st c m x) ≡ good_marked k st m x
  unfolding marked good_marked
  marked-in st m x = go (eqb x 0)
    where
      go : (b : Bool) → all_in (in_class k) (cond b [] (m ∷ shown st c x)) ≡ (b || (in_class k m && good_field k st x))
      go true = refl
      go false = ap (λ (t : Bool). in_class k m && t) (shown-in st x)

-- ---- a stamp

-- whether every byte is of the class is said by the format, whatever a legal clock says
pub stamp-in : (k : Kind) (st : Stamp) (c : Clock) (f : Format) → legal_clock c ≡ true → all_in (in_class k) (stamp_text st c f) ≡ stamp_good k st f
unfolding stamp_text stamp_good
stamp-in k st c f h =
    let l = legal-facts c h in
    all_append (in_class k) (shown st c f.first) (marked st c f.mark1 f.second ++ marked st c f.mark2 f.third)
    ∙ rw (
      all_append (in_class k) (marked st c f.mark1 f.second) (marked st c f.mark2 f.third),
      shown-in k c l st f.first,
      marked-in k c l st f.mark1 f.second,
      marked-in k c l st f.mark2 f.third,
    )

-- so it is so always exactly where the format says so: where it does not, the clock that starts (and any other) shows a byte outside
pub stamp-always : (k : Kind) (st : Stamp) (f : Format) → AlwaysIn k st f ↔ (stamp_good k st f ≡ true)
stamp-always k st f = (
  λ a. sym (stamp-in k st fresh f fresh-legal) ∙ a fresh fresh-legal,
  λ g c h. stamp-in k st c f h ∙ g,
)

-- a stamp as the only data is fit, for any legal clock, exactly where the format says so
pub stamp-fit : (k : Kind) (st : Stamp) (c : Clock) (f : Format) → legal_clock c ≡ true → fit k (stamp_text st c f) ≡ (fit_length k (stamp_length st f) && stamp_good k st f)
unfolding fit
stamp-fit k st c f h = rw (length-stamp st c f, stamp-in k st c f h)

-- ---- legal formats: bytes of 32 to 126 alone

field-128 : (st : Stamp) (x : ℕ) → good_field Code128 st x ≡ true
unfolding good_field in_class between
field-128 Date x = or-true (not (eqb x 3))
field-128 Time x = refl

module _ (st : Stamp) where
  absent-128 : (m x : ℕ) → absent m x ≡ true → good_marked Code128 st m x ≡ true
  unfolding good_marked
  absent-128 m x h = rw (and_right (eqb m 0) (eqb x 0) h)

  further-128 : (u v m x : ℕ) → further st u v m x ≡ true → good_marked Code128 st m x ≡ true
  unfolding good_marked in_class separator
  further-128 u v m x h =
      let r = and_left (between 33 126 m) (not (eqb m 34)) (and_left (separator m) (new_unit u v (unit st x)) h) in
      rw (in-range 32 126 m (omega (arith, range-low 33 126 m r)) (range-high 33 126 m r), field-128 st x) (or-true (eqb x 0))

  third-128 : (u v m x : ℕ) (b : Bool) → absent m x ≡ b → (b || further st u v m x) ≡ true → good_marked Code128 st m x ≡ true
  third-128 u v m x true p h = absent-128 m x p
  third-128 u v m x false p h = further-128 u v m x h

  -- a legal format shows what type 1 takes, and what a font draws
  pub legal-good : (f : Format) → legal_format st f ≡ true → stamp_good Code128 st f ≡ true
  unfolding legal_format stamp_good
  legal-good f h = rw (field-128 st f.first) (go (absent f.mark1 f.second && absent f.mark2 f.third) refl (and_right (new_unit 0 0 (unit st f.first)) _ h))
    where
      u : ℕ
      u = unit st f.first

      v : ℕ
      v = unit st f.second

      more : Bool
      more = absent f.mark2 f.third || further st u v f.mark2 f.third

      go : (b : Bool) → (absent f.mark1 f.second && absent f.mark2 f.third) ≡ b → (b || (further st u 0 f.mark1 f.second && more)) ≡ true
          → (good_marked Code128 st f.mark1 f.second && good_marked Code128 st f.mark2 f.third) ≡ true
      go true p w = rw (absent-128 f.mark1 f.second (and_left (absent f.mark1 f.second) _ p), absent-128 f.mark2 f.third (and_right (absent f.mark1 f.second) _ p))
      go false p w = rw (
        further-128 u 0 f.mark1 f.second (and_left (further st u 0 f.mark1 f.second) more w),
        third-128 u v f.mark2 f.third (absent f.mark2 f.third) refl (and_right (further st u 0 f.mark1 f.second) more w),
      )
