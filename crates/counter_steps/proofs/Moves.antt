-- What a step does to a counter, and what a label does to all ten.
-- Assumes nothing.
use mathlib.Core.Path.{◌≡◌, refl, sym, ap, ◌∙◌}
use mathlib.Core.Bool.{Bool, true, false, not, ◌&&◌, ◌||◌, true≢false}
use mathlib.Core.List.{List}
use mathlib.Core.Logic.{⊎_elim}
use Prim.Native.Nat.{ℕ, zero, suc, ◌+◌, ◌-◌, ◌*◌, ◌≤◌, ◌<◌}
use native.Mathlib.Nat.{one-mul}
use native.Mathlib.Omega.{arith}
use native.Mathlib.Decide.{dec_le, ℕ_discrete}
use lib.ListN.{length, get_or, set, length-set}
use lib.Dec.{eqb, leb, ltb}
use lib.Seq.{get_or-set_same, get_or-set_other}
use borrow.Author.Tests.{lt-ltb, le-ltb, le-leb, ltb-true, leb-true}
use Rattle.ground.proofs.Tests.{and_left, and_right, and_both, either}
use Rattle.declarations.specs.declared.Declared.{Declared}
use Rattle.declarations.specs.Declarations.{tenth, width_at, minus_at, step_at, counter_declared}
use Rattle.counters.specs.declared.Counters.{Counters}
use Rattle.counters.specs.Counters.{ten_to, counter_set, counter_value, counter_sound}
use Rattle.counters.proofs.Sound.{counter-blank-sound, counter-set-sound, counter-sound-facts, set-facts}
use Rattle.counter_steps.specs.declared.Counter.{Counter}
use Rattle.counter_steps.specs.Steps.{onward, inside, counts, inside_at, counter, stepped_at, moved_at, renewed, moved_all, SoundCounters, beyond}

-- ---- one counter at n, gone so far

module _ (w far n : ℕ) where
  pub inside-minus : inside w true far n ≡ true → far ≤ n
  unfolding inside onward
  inside-minus e = leb-true far n (and_left (leb far n) (ltb (n - far) (ten_to w)) e)

  pub inside-plus : inside w false far n ≡ true → n + far < ten_to w
  unfolding inside onward
  inside-plus e = ltb-true (n + far) (ten_to w) e

  minus-inside : far ≤ n → n < ten_to w → inside w true far n ≡ true
  unfolding inside onward
  minus-inside h b = and_both (leb far n) (ltb (n - far) (ten_to w)) (le-leb far n h) (lt-ltb (n - far) (ten_to w) (omega arith))

  plus-inside : n + far < ten_to w → inside w false far n ≡ true
  unfolding inside onward
  plus-inside h = lt-ltb (n + far) (ten_to w) h

  -- as the code asks it
  pub inside_back : (leb far n && ltb (n - far) (ten_to w)) ≡ inside w true far n
  unfolding inside onward
  inside_back = refl

  pub inside-room : ltb far (ten_to w - n) ≡ inside w false far n
  unfolding inside onward
  inside-room = elim (dec_le (ten_to w) (n + far)) [
    | yes h ↦ rw (le-ltb far (ten_to w - n) (omega arith), le-ltb (n + far) (ten_to w) h)
    | no h ↦ rw (lt-ltb far (ten_to w - n) (omega arith), lt-ltb (n + far) (ten_to w) (omega arith))
  ]

-- it ends below 10^w
pub onward-below : (w : ℕ) (minus : Bool) (far n : ℕ) → inside w minus far n ≡ true → onward minus far n < ten_to w
unfolding inside
onward-below w minus far n e = ltb-true (onward minus far n) (ten_to w) (and_right (not minus || leb far n) (ltb (onward minus far n) (ten_to w)) e)

-- no way, and two ways one after the other
pub onward-none : (minus : Bool) (n : ℕ) → onward minus 0 n ≡ n
unfolding onward
onward-none true n = omega arith
onward-none false n = omega arith

pub onward-on : (minus : Bool) (a b n : ℕ) → onward minus b (onward minus a n) ≡ onward minus (a + b) n
unfolding onward
onward-on true a b n = omega arith
onward-on false a b n = omega arith

module _ (w : ℕ) (minus : Bool) (n : ℕ) (below : n < ten_to w) where
  -- it is inside where it stands
  pub inside-here : inside w minus 0 n ≡ true
  inside-here = go minus
    where
      go : (b : Bool) → inside w b 0 n ≡ true
      go true = minus-inside w 0 n (omega arith) below
      go false = plus-inside w 0 n (omega arith)

  -- inside at the end of a way is inside on it
  pub inside-nearer : (near far : ℕ) → near ≤ far → inside w minus far n ≡ true → inside w minus near n ≡ true
  inside-nearer near far h = go minus
    where
      go : (b : Bool) → inside w b far n ≡ true → inside w b near n ≡ true
      go true e = minus-inside w near n (omega (arith, inside-minus w far n e)) below
      go false e = plus-inside w near n (omega (arith, inside-plus w far n e))

  -- inside after both ways, it is inside after the second
  pub inside_on : (a b : ℕ) → inside w minus (a + b) n ≡ true → inside w minus b (onward minus a n) ≡ true
  unfolding onward
  inside_on a b = go minus
    where
      go : (m : Bool) → inside w m (a + b) n ≡ true → inside w m b (onward m a n) ≡ true
      go true e = minus-inside w b (n - a) (omega (arith, inside-minus w (a + b) n e)) (omega arith)
      go false e = plus-inside w b (n + a) (omega (arith, inside-plus w (a + b) n e))

  -- and inside after each, it is inside after both
  pub inside_both : (a b : ℕ) → inside w minus a n ≡ true → inside w minus b (onward minus a n) ≡ true → inside w minus (a + b) n ≡ true
  unfolding onward
  inside_both a b = go minus
    where
      go : (m : Bool) → inside w m a n ≡ true → inside w m b (onward m a n) ≡ true → inside w m (a + b) n ≡ true
      go true e f = minus-inside w (a + b) n (omega (arith, inside-minus w a n e, inside-minus w b (n - a) f)) below
      go false e f = plus-inside w (a + b) n (omega (arith, inside-plus w b (n + a) f))

-- a longer way leads further up, or further down
pub onward-beyond : (w : ℕ) (minus : Bool) (near far n : ℕ) → near < far → inside w minus far n ≡ true → beyond minus (onward minus near n) (onward minus far n) ≡ true
unfolding onward
onward-beyond w true near far n h e = lt-ltb (n - far) (n - near) (omega (arith, inside-minus w far n e))
onward-beyond w false near far n h e = lt-ltb (n + near) (n + far) (omega arith)

pub beyond-on : (minus : Bool) (a b c : ℕ) → beyond minus a b ≡ true → beyond minus b c ≡ true → beyond minus a c ≡ true
beyond-on true a b c e f = lt-ltb c a (omega (arith, ltb-true b a e, ltb-true c b f))
beyond-on false a b c e f = lt-ltb a c (omega (arith, ltb-true a b e, ltb-true b c f))

pub beyond-differ : (minus : Bool) (a b : ℕ) → beyond minus a b ≡ true → a ≡ b → ⊥
beyond-differ true a b e q = omega (arith, ltb-true b a e)
beyond-differ false a b e q = omega (arith, ltb-true a b e)

-- ---- places that are renewed

module _ (f : ℕ → ℕ) where
  pub renewed-next : (i : ℕ) (out : List ℕ) → i < 10 → renewed f (10 - i) i out ≡ renewed f (10 - (i + 1)) (i + 1) (set out i (f i))
  renewed-next i out h = go (10 - i) (10 - (i + 1)) (i + 1) (omega arith) (omega arith)
    where
      go : (a b j : ℕ) → a ≡ suc b → j ≡ suc i → renewed f a i out ≡ renewed f b j (set out i (f i))
      go a b j p q = rw (p, q)

  pub renewed-none : (i : ℕ) (out : List ℕ) → 10 ≤ i → renewed f (10 - i) i out ≡ out
  renewed-none i out h = let e : 10 - i ≡ 0 = omega arith in rw e

  length-renewed : (n i : ℕ) (out : List ℕ) → length (renewed f n i out) ≡ length out
  length-renewed zero i out = refl
  length-renewed (suc n) i out = length-renewed n (suc i) (set out i (f i)) ∙ length-set out i (f i)

  renewed-before : (n i k : ℕ) (out : List ℕ) → k < i → get_or (renewed f n i out) k 0 ≡ get_or out k 0
  renewed-before zero i k out h = refl
  renewed-before (suc n) i k out h = renewed-before n (suc i) k (set out i (f i)) (omega arith) ∙ get_or-set_other out i k (f i) 0 (λ e. omega arith)

  renewed-at : (n i k : ℕ) (out : List ℕ) → i ≤ k → k < i + n → i + n ≤ length out → get_or (renewed f n i out) k 0 ≡ f k
  renewed-at zero i k out h j l = absurd (omega arith)
  renewed-at (suc n) i k out h j l = elim (ℕ_discrete i k) [
    | yes e ↦ renewed-before n (suc i) k (set out i (f i)) (omega arith) ∙ rw e (get_or-set_same out k (f k) 0 (omega arith))
    | no e ↦ renewed-at n (suc i) k (set out i (f i)) (omega arith) (omega arith) (omega (arith, length-set out i (f i)))
  ]

  renewed-each : (k : ℕ) (out : List ℕ) → length out ≡ 10 → k < 10 → tenth (renewed f 10 0 out) k ≡ f k
  renewed-each k out e h = rw (lt-ltb k 10 h) (renewed-at 10 0 k out (omega arith) (omega arith) (omega arith))

-- ---- counter k

module _ (d : Declared) (c : Counters) (k : ℕ) where
  -- a step that stays inside is a difference, or a sum, that does not wrap
  pub step-minus : minus_at d k ≡ true → inside_at d c k 1 ≡ true → step_at d k ≤ counter_value c k
  step-minus m e = rw one-mul at (inside-minus (width_at d k) (1 * step_at d k) (counter_value c k) (rw m at e))

  pub step-plus : minus_at d k ≡ false → inside_at d c k 1 ≡ true → counter_value c k + step_at d k < ten_to (width_at d k)
  step-plus m e = rw one-mul at (inside-plus (width_at d k) (1 * step_at d k) (counter_value c k) (rw m at e))

  pub stepped-minus : inside_at d c k 1 ≡ true → minus_at d k ≡ true → stepped_at d c k ≡ counter 1 (counter_value c k - step_at d k)
  unfolding stepped_at onward
  stepped-minus e m = rw (e, m)

  pub stepped-plus : inside_at d c k 1 ≡ true → minus_at d k ≡ false → stepped_at d c k ≡ counter 1 (counter_value c k + step_at d k)
  unfolding stepped_at onward
  stepped-plus e m = rw (e, m)

  pub stepped-out : inside_at d c k 1 ≡ false → stepped_at d c k ≡ counter 0 0
  unfolding stepped_at
  stepped-out e = rw e

  pub moved-steps : counts d c k ≡ true → moved_at d c k ≡ stepped_at d c k
  unfolding moved_at
  moved-steps p = rw p

  pub moved-rests : counts d c k ≡ false → moved_at d c k ≡ counter (tenth c.set k) (counter_value c k)
  unfolding moved_at
  moved-rests p = rw p

  pub moved_on : counts d c k ≡ true → inside_at d c k 1 ≡ true → moved_at d c k ≡ counter 1 (onward (minus_at d k) (step_at d k) (counter_value c k))
  unfolding stepped_at
  moved_on p e = moved-steps p ∙ rw e

  pub moved_out : counts d c k ≡ true → inside_at d c k 1 ≡ false → moved_at d c k ≡ counter 0 0
  moved_out p e = moved-steps p ∙ stepped-out e

-- ---- all ten

module _ (d : Declared) (c : Counters) where
  pub moved-flags : length (moved_all d c).set ≡ length c.set
  unfolding moved_all
  moved-flags = length-renewed (λ k. (moved_at d c k).set) 10 0 c.set

  pub moved-values : length (moved_all d c).value ≡ length c.value
  unfolding moved_all
  moved-values = length-renewed (λ k. (moved_at d c k).value) 10 0 c.value

  module _ (s : SoundCounters d c) (k : ℕ) (l : k < 10) where
    -- each counter is moved once, from where it stood
    pub set-each : tenth (moved_all d c).set k ≡ (moved_at d c k).set
    unfolding moved_all
    set-each = renewed-each (λ k. (moved_at d c k).set) k c.set s.flags l

    pub value-each : counter_value (moved_all d c) k ≡ (moved_at d c k).value
    unfolding moved_all
    value-each = renewed-each (λ k. (moved_at d c k).value) k c.value s.values l

    -- a set counter is below 10^w
    pub set_below : counter_set c k ≡ true → counter_value c k < ten_to (width_at d k)
    set_below e = (set-facts d c k (s.each k l) e).1

    -- where the counter counts and the step stays inside, it is set and one step on
    pub set_on : counts d c k ≡ true → inside_at d c k 1 ≡ true → tenth (moved_all d c).set k ≡ 1
    set_on p e = set-each ∙ ap (λ (x : Counter). x.set) (moved_on d c k p e)

    pub value_on : counts d c k ≡ true → inside_at d c k 1 ≡ true → counter_value (moved_all d c) k ≡ onward (minus_at d k) (step_at d k) (counter_value c k)
    value_on p e = value-each ∙ ap (λ (x : Counter). x.value) (moved_on d c k p e)

    -- where it leaves the range, it is unset
    set_out : counts d c k ≡ true → inside_at d c k 1 ≡ false → tenth (moved_all d c).set k ≡ 0
    set_out p e = set-each ∙ ap (λ (x : Counter). x.set) (moved_out d c k p e)

    value_out : counts d c k ≡ true → inside_at d c k 1 ≡ false → counter_value (moved_all d c) k ≡ 0
    value_out p e = value-each ∙ ap (λ (x : Counter). x.value) (moved_out d c k p e)

    -- one that does not count stays
    pub set-rests : counts d c k ≡ false → tenth (moved_all d c).set k ≡ tenth c.set k
    set-rests p = set-each ∙ ap (λ (x : Counter). x.set) (moved-rests d c k p)

    value-rests : counts d c k ≡ false → counter_value (moved_all d c) k ≡ counter_value c k
    value-rests p = value-each ∙ ap (λ (x : Counter). x.value) (moved-rests d c k p)

    -- a counter that is set after a move counted before it, and its step stayed inside
    pub set_before : counter_set (moved_all d c) k ≡ true → (counts d c k ≡ true) × (inside_at d c k 1 ≡ true)
    set_before e = go (counts d c k) (inside_at d c k 1) refl refl
      where
        is : (n : ℕ) → tenth (moved_all d c).set k ≡ n → eqb n 1 ≡ true
        is n p = sym (ap (λ (m : ℕ). eqb m 1) p) ∙ e

        go : (a b : Bool) → counts d c k ≡ a → inside_at d c k 1 ≡ b → (counts d c k ≡ true) × (inside_at d c k 1 ≡ true)
        go true true p q = (p, q)
        go true false p q = absurd (true≢false (sym (is 0 (set_out p q))))
        go false b p q =
            let set = is (tenth c.set k) (set-rests p) in
            absurd (true≢false (sym (and_both (counter_declared d k) (counter_set c k) (set-facts d c k (s.each k l) set).0 set) ∙ p))

    -- one that is unset stays unset
    pub unset-stays : counter_set c k ≡ false → counter_set (moved_all d c) k ≡ false
    unset-stays e = ⊎_elim
        (λ (h : counter_set (moved_all d c) k ≡ true). absurd (true≢false (sym (and_right (counter_declared d k) (counter_set c k) (set_before h).0) ∙ e)))
        (λ (h : counter_set (moved_all d c) k ≡ false). h)
        (either (counter_set (moved_all d c) k))

    -- "A label call .. moves counters", and unsets those that run out: each is sound
    moved-each : counter_sound d (moved_all d c) k ≡ true
    moved-each = ⊎_elim
        (λ (x : (tenth c.set k ≡ 0) × (counter_value c k ≡ 0)).
        let rest : counts d c k ≡ false = unset (counter_declared d k) (counter_set c k) (ap (λ (n : ℕ). eqb n 1) x.0) in
        counter-blank-sound d (moved_all d c) k (set-rests rest ∙ x.0) (value-rests rest ∙ x.1))
        (λ (x : (counter_set c k ≡ true) × (counter_declared d k ≡ true) × (counter_value c k < ten_to (width_at d k))).
        counted (and_both (counter_declared d k) (counter_set c k) x.1 x.0) x.1 (inside_at d c k 1) refl)
        (counter-sound-facts d c k (s.each k l))
      where
        unset : (a b : Bool) → b ≡ false → (a && b) ≡ false
        unset true b e = e
        unset false b e = refl

        counted : counts d c k ≡ true → counter_declared d k ≡ true → (b : Bool) → inside_at d c k 1 ≡ b → counter_sound d (moved_all d c) k ≡ true
        counted p q true e =
            counter-set-sound d (moved_all d c) k (ap (λ (n : ℕ). eqb n 1) (set_on p e)) q
            (rw (value_on p e) (onward-below (width_at d k) (minus_at d k) (step_at d k) (counter_value c k) (rw one-mul at e)))
        counted p q false e = counter-blank-sound d (moved_all d c) k (set_out p e) (value_out p e)

  pub moved-sound : SoundCounters d c → SoundCounters d (moved_all d c)
  moved-sound s = record { flags = moved-flags ∙ s.flags; values = moved-values ∙ s.values; each = λ k l. moved-each s k l }
