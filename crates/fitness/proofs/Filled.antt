-- Sound values that are all set are permitted with any legal clock, so data judged fit is fit as it is shown.
use mathlib.Core.Path.{◌≡◌, refl}
use mathlib.Core.Bool.{Bool, true, false, cond, ◌&&◌, ◌||◌, not, false≢true}
use mathlib.Core.List.{List, []}
use mathlib.Core.Logic.{⊎_elim}
use Prim.Native.Nat.{ℕ, ◌+◌, ◌^◌, ◌≤◌, ◌<◌}
use native.Mathlib.Omega.{arith}
use native.Mathlib.Nat.{one-le-pow}
use native.Mathlib.Decide.{dec_le}
use lib.ListN.{get_or, drop}
use lib.Dec.{eqb, leb}
use borrow.Author.Tests.{lt-ltb, le-ltb}
use Rattle.kinds.specs.declared.Kind.{Kind}
use Rattle.kinds.specs.Bytes.{all_in}
use Rattle.kinds.specs.Fit.{fit}
use Rattle.calendar.specs.declared.Clock.{Clock}
use Rattle.calendar.specs.Clock.{legal_clock}
use Rattle.elements.specs.declared.Element.{Element}
use Rattle.declarations.specs.declared.Declared.{Declared}
use Rattle.counters.specs.declared.Counters.{Counters}
use Rattle.declarations.specs.Declarations.{tenth, length_at, side_at, width_at, variable_declared, counter_declared}
use Rattle.counters.specs.Counters.{ten_to, counter_set, counter_value}
use Rattle.stored_values.specs.Stored.{field_at, value_in, variable_in, field_set, is_zero, keeps, field_sound}
use Rattle.padding.specs.Padding.{fits}
use Rattle.counters.specs.Counters.{counter_sound}
use Rattle.values.specs.Sound.{values_sound, all_set}
use Rattle.summary.specs.Data.{assembled, values_in}
use Rattle.counters.proofs.Tens.{ten-is}
use Rattle.values.proofs.Sound.{sound-at, set-at}
use Rattle.stored_values.proofs.Fields.{zero-at, field-sound-facts}
use Rattle.counters.proofs.Sound.{counter-sound-facts}
use Rattle.ground.proofs.Tests.{and_left, and_right}
use Rattle.fitness.specs.Permitted.{Permitted}
use Rattle.summary.specs.Summary.{judged}
use Rattle.fitness.proofs.Always.{judged-always}

-- ---- variables

keeps-fits : (side m : ℕ) (f : List ℕ) → keeps side m f ≡ true → fits side m (value_in f) ≡ true
unfolding keeps
keeps-fits side m f h =
    let blank = all_in is_zero (drop (2 + get_or f 1 0) f) in
    let r = and_right (field_set f) (leb (get_or f 1 0) 32 && (fits side m (value_in f) && blank)) h in
    and_left (fits side m (value_in f)) blank (and_right (leb (get_or f 1 0) 32) (fits side m (value_in f) && blank) r)

-- what is not declared has the empty value alone
fits-none : (side m : ℕ) (v : List ℕ) → m ≡ 0 → v ≡ [] → fits side m v ≡ true
unfolding fits
fits-none side m v p q = rw (p, q) (go (eqb side 78) (eqb side 90))
  where
    go : (n z : Bool) → cond n true (cond z true true) ≡ true
    go true z = refl
    go false true = refl
    go false false = refl

blank-value : (f : List ℕ) → all_in is_zero f ≡ true → value_in f ≡ []
unfolding value_in
blank-value f h = rw (zero-at f 1 h)

-- a field that is all zero belongs to a variable that is not declared
blank-undeclared : (d : Declared) (k : ℕ) (f : List ℕ) → all_in is_zero f ≡ true → (not (variable_declared d k) || field_set f) ≡ true → length_at d k ≡ 0
blank-undeclared d k f z h = elim (dec_le (length_at d k) 0) [
  | yes l ↦ omega arith
  | no l ↦ absurd (false≢true (rw (lt-ltb 0 (length_at d k) (omega arith), zero-at f 0 z) at h))
]

past-field : (values : List ℕ) (k : ℕ) → 10 ≤ k → variable_in values k ≡ []
unfolding variable_in field_at value_in
past-field values k h = rw (le-ltb k 10 h)

past-length : (d : Declared) (k : ℕ) → 10 ≤ k → length_at d k ≡ 0
past-length d k h = rw (le-ltb k 10 h)

past-counter : (c : Counters) (k : ℕ) → 10 ≤ k → counter_value c k ≡ 0
past-counter c k h = rw (le-ltb k 10 h)

-- ---- the theorem

module _ (d : Declared) (values : List ℕ) (c : Counters) (clock : Clock) (sound : values_sound d values c ≡ true) (full : all_set d values c ≡ true) (right : legal_clock clock ≡ true) where
  variable-fits : (k : ℕ) → k < 10 → fits (side_at d k) (length_at d k) (variable_in values k) ≡ true
  unfolding variable_in
  variable-fits k l = ⊎_elim
      (λ (z : all_in is_zero (field_at values k) ≡ true). fits-none (side_at d k) (length_at d k) (value_in (field_at values k))
      (blank-undeclared d k (field_at values k) z (and_left (not (variable_declared d k) || field_set (field_at values k)) (not (counter_declared d k) || counter_set c k) (set-at d values c full k l)))
      (blank-value (field_at values k) z))
      (λ (w : (variable_declared d k ≡ true) × (keeps (side_at d k) (length_at d k) (field_at values k) ≡ true)). keeps-fits (side_at d k) (length_at d k) (field_at values k) w.1)
      (field-sound-facts d k (field_at values k) (and_left (field_sound d k (field_at values k)) (counter_sound d c k) (sound-at d values c sound k l)))

  counter-below : (k : ℕ) → k < 10 → counter_value c k < 10 ^ width_at d k
  counter-below k l = ⊎_elim
      (λ (w : (tenth c.set k ≡ 0) × (counter_value c k ≡ 0)). rw w.1 (one-le-pow (width_at d k) 10 (omega arith)))
      (λ (w : (counter_set c k ≡ true) × (counter_declared d k ≡ true) × (counter_value c k < ten_to (width_at d k))). rw (← ten-is (width_at d k) (omega arith)) w.2)
      (counter-sound-facts d c k (and_right (field_sound d k (field_at values k)) (counter_sound d c k) (sound-at d values c sound k l)))

  -- sound values that are all set are permitted, with any legal clock
  pub set-permitted : Permitted d (values_in values c clock)
  set-permitted = record {
    variables = λ k. elim (dec_le 10 k) [
      | yes h ↦ fits-none (side_at d k) (length_at d k) (variable_in values k) (past-length d k h) (past-field values k h)
      | no h ↦ variable-fits k (omega arith)
    ];
    counters = λ k. elim (dec_le 10 k) [
      | yes h ↦ omega (arith, past-counter c k h, one-le-pow (width_at d k) 10 (omega arith))
      | no h ↦ counter-below k (omega arith)
    ];
    clock = right;
  }

  -- so what is judged fit is fit whenever it is shown with them
  pub shown-fit : (line : List ℕ) (es : List Element) (k : Kind) → judged line d es k ≡ true → fit k (assembled line d (values_in values c clock) es) ≡ true
  shown-fit line es k j = judged-always line d es k j (values_in values c clock) set-permitted
