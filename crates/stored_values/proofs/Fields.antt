-- Sound fields: all zero, or a declared value that fits. Entering and unsetting keep each so.
use Rattle.std.proofs.Common.{Ok, Err}
use mathlib.Core.Path.{◌≡◌, refl, ap, ◌∙◌}
use mathlib.Core.Bool.{Bool, true, false, cond, ◌&&◌, ◌||◌}
use mathlib.Core.List.{List, [], ◌∷◌, ◌++◌, append_assoc}
use mathlib.Core.Logic.{◌⊎◌, inl, inr}
use Prim.Native.Nat.{ℕ, zero, suc, ◌+◌, ◌-◌, ◌*◌, ◌≤◌, ◌<◌}
use native.Mathlib.Omega.{arith}
use native.Mathlib.Decide.{dec_le, ℕ_discrete}
use lib.ListN.{length, get_or, set, take, drop, replicate, length-append, length-replicate, length-take}
use lib.Seq.{sets, sets-eq, take_at, drop_at, take-set-le, drop-set-lt, drop-set-add}
use lib.Dec.{ltb}
use borrow.Author.Tests.{le-leb, lt-ltb, eqb-true, ltb-true}
use Rattle.kinds.specs.Bytes.{all_in}
use Rattle.padding.proofs.Ranges.{all_take, all_drop, all_replicate}
use Rattle.ground.proofs.Tests.{or-first, or-second, and_left, and_right, and_both}
use Rattle.declarations.specs.declared.Declared.{Declared}
use Rattle.declarations.specs.declared.Refused.TheVariants.{Undeclared, Unfit}
use Rattle.declarations.specs.Declarations.{length_at, side_at, variable_declared}
use Rattle.declarations.proofs.Tenths.{tenth-below}
use Rattle.padding.specs.Padding.{enters, padded, fits}
use Rattle.padding.proofs.Padded.{entered-fits, length-fits}
use Rattle.stored_values.specs.Stored.{field, stored, field_at, value_in, variable_entered, unset, is_zero, keeps, field_sound}

-- ---- a part of a list where stores are made elsewhere

part-before : (n a : ℕ) (l : List ℕ) (at : ℕ) (t : List ℕ) → a + n ≤ at → take n (drop a (sets l at t)) ≡ take n (drop a l)
part-before n a l at [] h = refl
part-before n a l at (x ∷ t) h = part-before n a (set l at x) (suc at) t (omega arith) ∙ go (at - a) (omega arith) (omega arith)
  where
    go : (i : ℕ) → at ≡ a + i → n ≤ i → take n (drop a (set l at x)) ≡ take n (drop a l)
    go i e k = rw (e, drop-set-add a l i x) (take-set-le n (drop a l) i x k)

part-after : (a : ℕ) (l : List ℕ) (at : ℕ) (t : List ℕ) → at + length t ≤ a → drop a (sets l at t) ≡ drop a l
part-after a l at [] h = refl
part-after a l at (x ∷ t) h = part-after a (set l at x) (suc at) t (omega arith) ∙ drop-set-lt a l at x (omega arith)

part_same : (l : List ℕ) (at n : ℕ) (t : List ℕ) → length t ≡ n → at + n ≤ length l → take n (drop at (sets l at t)) ≡ t
part_same l at n t e h =
    rw (sets-eq t l at (omega arith), append_assoc)
    (ap (take n) (drop_at (take at l) (t ++ drop (at + length t) l) at (rw length-take (omega arith))) ∙ take_at t (drop (at + length t) l) n e)

-- ---- the field that keeps a value

pub length-field : (v : List ℕ) → length v ≤ 32 → length (field v) ≡ 34
unfolding field
length-field v h = rw (length-append, length-replicate) (omega arith)

pub value-kept : (v : List ℕ) → value_in (field v) ≡ v
unfolding field value_in
value-kept v = take_at v (replicate (32 - length v) 0) (length v) refl

keeps-is : (side m n : ℕ) (f v : List ℕ) → get_or f 0 0 ≡ 1 → get_or f 1 0 ≡ n → n ≤ 32 → value_in f ≡ v → fits side m v ≡ true
    → all_in is_zero (drop (2 + n) f) ≡ true → keeps side m f ≡ true
unfolding keeps
keeps-is side m n f v p q h e g z = rw (p, q, le-leb n 32 h, e, g, z)

field-blank : (v : List ℕ) (n : ℕ) → n ≡ suc (suc (length v)) → all_in is_zero (drop n (field v)) ≡ true
unfolding field
field-blank v n e = rw (e, drop_at v (replicate (32 - length v) 0) (length v) refl) (all_replicate is_zero (32 - length v) 0 refl)

field-first : (v : List ℕ) → get_or (field v) 0 0 ≡ 1
unfolding field
field-first v = refl

field-second : (v : List ℕ) → get_or (field v) 1 0 ≡ length v
unfolding field
field-second v = refl

field-keeps : (side m : ℕ) (v : List ℕ) → length v ≤ 32 → fits side m v ≡ true → keeps side m (field v) ≡ true
field-keeps side m v h f =
    keeps-is side m (length v) (field v) v (field-first v) (field-second v) h (value-kept v) f (field-blank v (2 + length v) (omega arith))

-- ---- fields among the values

field-part : (a b : List ℕ) (k : ℕ) → take 34 (drop (34 * k) a) ≡ take 34 (drop (34 * k) b) → field_at a k ≡ field_at b k
unfolding field_at
field-part a b k e = ap (λ (f : List ℕ). cond (ltb k 10) f []) e

pub field-other : (values f : List ℕ) (n k : ℕ) → length f ≡ 34 → (k ≡ n → ⊥) → field_at (sets values (34 * n) f) k ≡ field_at values k
field-other values f n k e h = field-part (sets values (34 * n) f) values k (elim (dec_le k n) [
  | yes l ↦ part-before 34 (34 * k) values (34 * n) f (omega (arith, apart l))
  | no l ↦ ap (take 34) (part-after (34 * k) values (34 * n) f (omega arith))
])
  where
    apart : k ≤ n → k < n
    apart l = elim (dec_le n k) [
      | yes m ↦ absurd (h (omega arith))
      | no m ↦ omega arith
    ]

pub field-same : (values f : List ℕ) (n : ℕ) → length f ≡ 34 → n < 10 → length values ≡ 340 → field_at (sets values (34 * n) f) n ≡ f
unfolding field_at
field-same values f n e h l = rw (lt-ltb n 10 h) (part_same values (34 * n) 34 f e (omega arith))

all-field : (q : ℕ → Bool) (values : List ℕ) (k : ℕ) → all_in q values ≡ true → all_in q (field_at values k) ≡ true
unfolding field_at
all-field q values k h = go (ltb k 10)
  where
    go : (b : Bool) → all_in q (cond b (take 34 (drop (34 * k) values)) []) ≡ true
    go true = all_take q 34 (drop (34 * k) values) (all_drop q (34 * k) values h)
    go false = refl

-- ---- one field

pub zero-at : (f : List ℕ) (i : ℕ) → all_in is_zero f ≡ true → get_or f i 0 ≡ 0
zero-at [] i h = refl
zero-at (x ∷ f) zero h = eqb-true x 0 (and_left (is_zero x) (all_in is_zero f) h)
zero-at (x ∷ f) (suc i) h = zero-at f i (and_right (is_zero x) (all_in is_zero f) h)

module _ (d : Declared) (k : ℕ) (f : List ℕ) where
  pub field-blank-sound : all_in is_zero f ≡ true → field_sound d k f ≡ true
  unfolding field_sound
  field-blank-sound h = or-first (all_in is_zero f) (variable_declared d k && keeps (side_at d k) (length_at d k) f) h

  pub field-keeps-sound : variable_declared d k ≡ true → keeps (side_at d k) (length_at d k) f ≡ true → field_sound d k f ≡ true
  unfolding field_sound
  field-keeps-sound h g =
      or-second (all_in is_zero f) (variable_declared d k && keeps (side_at d k) (length_at d k) f)
      (and_both (variable_declared d k) (keeps (side_at d k) (length_at d k) f) h g)

  pub field-sound-facts : field_sound d k f ≡ true → (all_in is_zero f ≡ true) ⊎ ((variable_declared d k ≡ true) × (keeps (side_at d k) (length_at d k) f ≡ true))
  unfolding field_sound
  field-sound-facts h = go (all_in is_zero f) refl h
    where
      go : (z : Bool) → all_in is_zero f ≡ z → (z || (variable_declared d k && keeps (side_at d k) (length_at d k) f)) ≡ true
          → (all_in is_zero f ≡ true) ⊎ ((variable_declared d k ≡ true) × (keeps (side_at d k) (length_at d k) f ≡ true))
      go true e g = inl e
      go false e g =
          inr (and_left (variable_declared d k) (keeps (side_at d k) (length_at d k) f) g, and_right (variable_declared d k) (keeps (side_at d k) (length_at d k) f) g)

-- ---- unset values

pub unset-field : (d : Declared) (values : List ℕ) (k : ℕ) → field_sound d k (field_at (unset values) k) ≡ true
unfolding unset
unset-field d values k =
    field-blank-sound d k (field_at (replicate (length values) 0) k) (all-field is_zero (replicate (length values) 0) k (all_replicate is_zero (length values) 0 refl))

-- ---- a variable entered

padded-short : (side m : ℕ) (text : List ℕ) → enters side m text ≡ true → m ≤ 32 → length (padded side m text) ≤ 32
padded-short side m text h l = omega (arith, length-fits side m (padded side m text) (entered-fits side m text h))

module _ (d : Declared) (values : List ℕ) (n : ℕ) (text : List ℕ) (whole : length values ≡ 340) (old : (k : ℕ) → k < 10 → field_sound d k (field_at values k) ≡ true) where
  taken-field : variable_declared d n ≡ true → enters (side_at d n) (length_at d n) text ≡ true
      → (k : ℕ) → k < 10 → field_sound d k (field_at (sets values (34 * n) (field (padded (side_at d n) (length_at d n) text))) k) ≡ true
  taken-field p e k l = elim (ℕ_discrete k n) [
    | yes q ↦ rw (q, field-same values f n (length-field (padded (side_at d n) (length_at d n) text) room) below whole)
        (field-keeps-sound d n f p (field-keeps (side_at d n) (length_at d n) (padded (side_at d n) (length_at d n) text) room (entered-fits (side_at d n) (length_at d n) text e)))
    | no q ↦ rw (field-other values f n k (length-field (padded (side_at d n) (length_at d n) text) room) q) (old k l)
  ]
    where
      f : List ℕ
      f = field (padded (side_at d n) (length_at d n) text)

      room : length (padded (side_at d n) (length_at d n) text) ≤ 32
      room = padded-short (side_at d n) (length_at d n) text e (omega arith)

      below : n < 10
      below = tenth-below d.lengths n (omega (arith, ltb-true 0 (length_at d n) p))

  -- `?V`, taken or refused
  pub entered-field : (k : ℕ) → k < 10 → field_sound d k (field_at (variable_entered d n text values).values k) ≡ true
  unfolding variable_entered
  entered-field k l = go (variable_declared d n) (enters (side_at d n) (length_at d n) text) refl refl
    where
      go : (a b : Bool) → variable_declared d n ≡ a → enters (side_at d n) (length_at d n) text ≡ b
          → field_sound d k (field_at (cond a (cond b (stored (Ok tt) (sets values (34 * n) (field (padded (side_at d n) (length_at d n) text)))) (stored (Err Unfit) values)) (stored (Err Undeclared) values)).values k) ≡ true
      go true true p q = taken-field p q k l
      go true false p q = old k l
      go false b p q = old k l
