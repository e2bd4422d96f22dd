-- Sound counters: unset, or declared and below 10^w. Entering keeps each so.
use Rattle.std.proofs.Common.{Ok, Err}
use mathlib.Core.Path.{◌≡◌, refl, sym, ap, ◌∙◌}
use mathlib.Core.Bool.{Bool, true, false, cond, ◌&&◌, ◌||◌, true≢false}
use mathlib.Core.Logic.{◌⊎◌, inl, inr, ⊎_elim}
use Prim.Native.Nat.{ℕ, ◌<◌}
use native.Mathlib.Omega.{arith}
use native.Mathlib.Decide.{ℕ_discrete}
use lib.ListN.{length, set}
use lib.Dec.{eqb, ltb}
use borrow.Author.Tests.{lt-ltb, eqb-true, ltb-true}
use Rattle.ground.proofs.Tests.{or-second, and_left, and_right, and_both}
use Rattle.declarations.specs.declared.Declared.{Declared}
use Rattle.declarations.specs.declared.Refused.TheVariants.{Undeclared, Unfit}
use Rattle.declarations.specs.Declarations.{tenth, width_at, counter_declared}
use Rattle.declarations.proofs.Tenths.{tenth-same, tenth-other, tenth-none}
use Rattle.counters.specs.declared.Counters.{Counters}
use Rattle.counters.specs.Counters.{ten_to, counters, none_set, counter_set, counter_value, counter_entered, counters_after, counter_sound}

-- ---- one counter

module _ (d : Declared) (c : Counters) (k : ℕ) where
  pub counter-blank-sound : tenth c.set k ≡ 0 → counter_value c k ≡ 0 → counter_sound d c k ≡ true
  unfolding counter_sound
  counter-blank-sound p q = rw (p, q)

  pub counter-set-sound : counter_set c k ≡ true → counter_declared d k ≡ true → counter_value c k < ten_to (width_at d k) → counter_sound d c k ≡ true
  unfolding counter_sound
  counter-set-sound p q h =
      or-second (eqb (tenth c.set k) 0 && eqb (counter_value c k) 0) (counter_set c k && (counter_declared d k && ltb (counter_value c k) (ten_to (width_at d k))))
      (and_both (counter_set c k) (counter_declared d k && ltb (counter_value c k) (ten_to (width_at d k))) p
      (and_both (counter_declared d k) (ltb (counter_value c k) (ten_to (width_at d k))) q (lt-ltb (counter_value c k) (ten_to (width_at d k)) h)))

  pub counter-sound-facts : counter_sound d c k ≡ true
      → ((tenth c.set k ≡ 0) × (counter_value c k ≡ 0)) ⊎ ((counter_set c k ≡ true) × (counter_declared d k ≡ true) × (counter_value c k < ten_to (width_at d k)))
  unfolding counter_sound
  counter-sound-facts h = go (eqb (tenth c.set k) 0 && eqb (counter_value c k) 0) refl h
    where
      go : (z : Bool) → (eqb (tenth c.set k) 0 && eqb (counter_value c k) 0) ≡ z
          → (z || (counter_set c k && (counter_declared d k && ltb (counter_value c k) (ten_to (width_at d k))))) ≡ true
          → ((tenth c.set k ≡ 0) × (counter_value c k ≡ 0)) ⊎ ((counter_set c k ≡ true) × (counter_declared d k ≡ true) × (counter_value c k < ten_to (width_at d k)))
      go true e g =
          inl (
            eqb-true (tenth c.set k) 0 (and_left (eqb (tenth c.set k) 0) (eqb (counter_value c k) 0) e),
            eqb-true (counter_value c k) 0 (and_right (eqb (tenth c.set k) 0) (eqb (counter_value c k) 0) e),
          )
      go false e g =
          let r = and_right (counter_set c k) (counter_declared d k && ltb (counter_value c k) (ten_to (width_at d k))) g in
          inr (
            and_left (counter_set c k) (counter_declared d k && ltb (counter_value c k) (ten_to (width_at d k))) g,
            and_left (counter_declared d k) (ltb (counter_value c k) (ten_to (width_at d k))) r,
            ltb-true (counter_value c k) (ten_to (width_at d k)) (and_right (counter_declared d k) (ltb (counter_value c k) (ten_to (width_at d k))) r),
          )

  -- a counter that is set is declared and below 10^w
  pub set-facts : counter_sound d c k ≡ true → counter_set c k ≡ true → (counter_declared d k ≡ true) × (counter_value c k < ten_to (width_at d k))
  set-facts h e = ⊎_elim
      (λ (x : (tenth c.set k ≡ 0) × (counter_value c k ≡ 0)). absurd (true≢false (sym e ∙ ap (λ (n : ℕ). eqb n 1) x.0)))
      (λ (x : (counter_set c k ≡ true) × (counter_declared d k ≡ true) × (counter_value c k < ten_to (width_at d k))). (x.1, x.2))
      (counter-sound-facts h)

-- with nothing set, counters are sound under any declarations
pub none-counter : (d : Declared) (k : ℕ) → counter_sound d none_set k ≡ true
unfolding none_set
none-counter d k = counter-blank-sound d none_set k (tenth-none k) (tenth-none k)

-- ---- entered

counter-same : (d : Declared) (a b : Counters) (k : ℕ) → tenth a.set k ≡ tenth b.set k → counter_value a k ≡ counter_value b k → counter_sound d a k ≡ counter_sound d b k
unfolding counter_sound
counter-same d a b k p q = rw (p, q)

module _ (d : Declared) (c : Counters) (ten : length c.value ≡ 10) (old : (k : ℕ) → k < 10 → counter_sound d c k ≡ true) where
  module _ (n v : ℕ) (flags : length c.set ≡ 10) where
    set-counters : Counters
    set-counters = counters (set c.set n 1) (set c.value n v)

    taken-counter : 0 < width_at d n → v < ten_to (width_at d n) → (k : ℕ) → k < 10 → counter_sound d set-counters k ≡ true
    unfolding set-counters
    taken-counter p h k l = elim (ℕ_discrete k n) [
      | yes q ↦ rw q (counter-set-sound d set-counters n (ap (λ (x : ℕ). eqb x 1) (tenth-same c.set n 1 flags (omega arith))) (lt-ltb 0 (width_at d n) p)
          (rw (tenth-same c.value n v ten (omega arith)) h))
      | no q ↦ counter-same d set-counters c k (tenth-other c.set n k 1 q) (tenth-other c.value n k v q) ∙ old k l
    ]

    -- `?C`, taken or refused
    pub counted-counter : (k : ℕ) → k < 10 → counter_sound d (counters_after c (counter_entered d c n v)) k ≡ true
    unfolding counter_entered set-counters
    counted-counter k l = go (counter_declared d n) (ltb v (ten_to (width_at d n))) refl refl
      where
        go : (a b : Bool) → counter_declared d n ≡ a → ltb v (ten_to (width_at d n)) ≡ b
            → counter_sound d (counters_after c (cond a (cond b (Ok set-counters) (Err Unfit)) (Err Undeclared))) k ≡ true
        go true true p q = taken-counter (ltb-true 0 (width_at d n) p) (ltb-true v (ten_to (width_at d n)) q) k l
        go true false p q = old k l
        go false b p q = old k l
