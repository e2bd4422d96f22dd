-- What a legal format is: one, two or three fields; and the formats in force.
use mathlib.Core.Path.{◌≡◌, refl, sym, ◌∙◌}
use mathlib.Core.Bool.{Bool, true, false, ◌&&◌, ◌||◌, not, false≢true}
use Prim.Native.Nat.{ℕ, ◌≤◌}
use Prim.Native.Char.{code}
use native.Mathlib.Omega.{arith}
use native.Mathlib.Decide.{dec_le}
use lib.Dec.{eqb}
use borrow.Author.Tests.{lt-leb, ne_eqb, eqb-true}
use Rattle.kinds.specs.Bytes.{between}
use Rattle.kinds.proofs.Laws.{between-from, between-facts}
use Rattle.ground.proofs.Tests.{and_left, and_right, and_both}
use Rattle.formats.specs.declared.Format.{Format}
use Rattle.formats.specs.declared.Formats.{Formats}
use Rattle.formats.specs.declared.Stamp.{Stamp}
use Rattle.formats.specs.declared.Stamp.TheVariants.{Date, Time}
use Rattle.formats.specs.Formats.{format, unit, new_unit, separator, absent, further, legal_format, example, format_of, with_format, examples, legal_formats}

-- ---- fields and separators

no-unit : (st : Stamp) (x : ℕ) → 6 ≤ x → unit st x ≡ 0
unfolding unit
no-unit Date x h =
    rw (between-from 1 2 x (omega arith), lt-leb x 2 (omega arith), between-from 3 4 x (omega arith), lt-leb x 4 (omega arith), ne_eqb x 5 (λ e. omega arith))
no-unit Time x h = rw (between-from 1 3 x (omega arith), lt-leb x 3 (omega arith))

-- no field is none that has not come yet
pub no-new : (u v : ℕ) → new_unit u v 0 ≡ false
unfolding new_unit
no-new u v = refl

-- the numbers of fields are 1 to 5
pub field-few : (st : Stamp) (u v x : ℕ) → new_unit u v (unit st x) ≡ true → x ≤ 5
field-few st u v x h = elim (dec_le x 5) [
  | yes k ↦ k
  | no k ↦
      let z : new_unit u v 0 ≡ true = rw (no-unit st x (omega arith)) at h in
      absurd (false≢true (sym (no-new u v) ∙ z))
]

-- separators are bytes 33 to 126
pub separator-range : (m : ℕ) → separator m ≡ true → (33 ≤ m) × (m ≤ 126)
unfolding separator
separator-range m h = between-facts (code "!") (code "~") m (and_left (between (code "!") (code "~") m) (not (eqb m (code "\""))) h)

-- ---- a legal format

-- one field; two; three
pub data Fields (st : Stamp) : Format → Type 0 where
  one : (a : ℕ) → new_unit 0 0 (unit st a) ≡ true → Fields st (format a 0 0 0 0)
  two : (a x b : ℕ) → new_unit 0 0 (unit st a) ≡ true → further st (unit st a) 0 x b ≡ true → Fields st (format a x b 0 0)
  three : (a x b y c : ℕ) → new_unit 0 0 (unit st a) ≡ true → further st (unit st a) 0 x b ≡ true → further st (unit st a) (unit st b) y c ≡ true
      → Fields st (format a x b y c)

module _ (st : Stamp) (a x b y c : ℕ) where
  more-fields : new_unit 0 0 (unit st a) ≡ true → further st (unit st a) 0 x b ≡ true → (t : Bool) → absent y c ≡ t
      → (t || further st (unit st a) (unit st b) y c) ≡ true
      → Fields st (format a x b y c)
  more-fields n f true e h =
      rw (eqb-true y 0 (and_left (eqb y 0) (eqb c 0) e), eqb-true c 0 (and_right (eqb y 0) (eqb c 0) e)) (two a x b n f)
  more-fields n f false e h = three a x b y c n f h

  any-fields : new_unit 0 0 (unit st a) ≡ true → (t : Bool) → (absent x b && absent y c) ≡ t
      → (t || further st (unit st a) 0 x b && (absent y c || further st (unit st a) (unit st b) y c)) ≡ true
      → Fields st (format a x b y c)
  any-fields n true e h =
      let p = and_left (absent x b) (absent y c) e in
      let q = and_right (absent x b) (absent y c) e in
      rw (eqb-true x 0 (and_left (eqb x 0) (eqb b 0) p), eqb-true b 0 (and_right (eqb x 0) (eqb b 0) p), eqb-true y 0 (and_left (eqb y 0) (eqb c 0) q), eqb-true c 0 (and_right (eqb y 0) (eqb c 0) q))
      (one a n)
  any-fields n false e h =
      more-fields n (and_left (further st (unit st a) 0 x b) _ h) (absent y c) refl (and_right (further st (unit st a) 0 x b) _ h)

-- a legal format has one field, two or three
pub legal-fields : (st : Stamp) (f : Format) → legal_format st f ≡ true → Fields st f
unfolding legal_format
legal-fields st f h =
    any-fields st f.first f.mark1 f.second f.mark2 f.third (and_left (new_unit 0 0 (unit st f.first)) _ h)
    (absent f.mark1 f.second && absent f.mark2 f.third)
    refl
    (and_right (new_unit 0 0 (unit st f.first)) _ h)

-- the examples are legal
pub example-legal : (st : Stamp) → legal_format st (example st) ≡ true
unfolding legal_format example unit new_unit separator between
example-legal Date = refl
example-legal Time = refl

-- ---- the formats in force

pub examples-legal : legal_formats examples ≡ true
examples-legal = and_both (legal_format Date (example Date)) (legal_format Time (example Time)) (example-legal Date) (example-legal Time)

-- each of legal formats is legal
pub of-legal : (fs : Formats) (st : Stamp) → legal_formats fs ≡ true → legal_format st (format_of fs st) ≡ true
of-legal fs Date h = and_left (legal_format Date fs.date) (legal_format Time fs.time) h
of-legal fs Time h = and_right (legal_format Date fs.date) (legal_format Time fs.time) h

-- and they stay legal where a legal format is set
pub with-legal : (fs : Formats) (st : Stamp) (f : Format) → legal_formats fs ≡ true → legal_format st f ≡ true → legal_formats (with_format fs st f) ≡ true
with-legal fs Date f h k = and_both (legal_format Date f) (legal_format Time fs.time) k (of-legal fs Time h)
with-legal fs Time f h k = and_both (legal_format Date fs.date) (legal_format Time f) (of-legal fs Date h) k

-- what is set is in force
pub with-of : (fs : Formats) (st : Stamp) (f : Format) → format_of (with_format fs st f) st ≡ f
with-of fs Date f = refl
with-of fs Time f = refl

-- and the other is as it was
pub with-other : (fs : Formats) (f : Format) → (format_of (with_format fs Date f) Time ≡ format_of fs Time) × (format_of (with_format fs Time f) Date ≡ format_of fs Date)
with-other fs f = (refl, refl)
