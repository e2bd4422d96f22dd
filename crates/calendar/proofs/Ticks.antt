-- Laws of `tick` and `after`: legal clocks stay legal, seconds add up, and a day's seconds pass at once.
use mathlib.Core.Path.{◌≡◌, refl, sym, ap, ◌∙◌}
use mathlib.Core.Bool.{Bool, true, false, cond, true≢false}
use Prim.Native.Nat.{ℕ, zero, suc, ◌+◌, ◌-◌, ◌/◌, ◌%◌, ◌≤◌, ◌<◌}
use native.Mathlib.Nat.{add-zero, zero-add, suc-add}
use native.Mathlib.Decide.{dec_lt}
use native.Mathlib.Omega.{arith}
use lib.Dec.{leb, ltb, eqb}
use borrow.Author.Tests.{leb-true, lt-ltb, le-ltb, eqb-true}
use Rattle.std.proofs.Common.{Ok, Err}
use Rattle.calendar.specs.declared.Clock.{Clock}
use Rattle.calendar.specs.declared.Unmoved.TheVariants.{NoClock, TooLong}
use Rattle.calendar.specs.Clock.{clock, days_in, legal_clock, last_day, last, next_day, tick, after, moved}
use Rattle.calendar.specs.Day.{time_of, at_time}
use Rattle.ground.proofs.Tests.{and_left, and_right}
use Rattle.calendar.proofs.Clocks.{days-some, days-december, Legal, legal-facts, facts-legal}

-- ---- the next day

pub last-day : (c : Clock) → c.year ≡ 99 → c.month ≡ 12 → c.day ≡ 31 → last_day c ≡ true
unfolding last_day
last-day c p q r = rw (p, q, r)

pub last-facts : (c : Clock) → last_day c ≡ true → (c.year ≡ 99) × (c.month ≡ 12) × (c.day ≡ 31)
unfolding last_day
last-facts c h =
    let t = and_right (eqb c.year 99) _ h in
    (eqb-true c.year 99 (and_left (eqb c.year 99) _ h), eqb-true c.month 12 (and_left (eqb c.month 12) _ t), eqb-true c.day 31 (and_right (eqb c.month 12) _ t))

-- midnight of a later date
midnight : (y m d : ℕ) → y ≤ 99 → 1 ≤ m → m ≤ 12 → 1 ≤ d → d ≤ days_in y m → Legal (clock y m d 0 0 0)
midnight y m d a b e f g = record {
  year = a;
  month_low = b;
  month_high = e;
  day_low = f;
  day_high = g;
  hour = omega arith;
  minute = omega arith;
  second = omega arith;
}

module _ (c : Clock) (l : Legal c) where
  -- in the month's last day of December that is not the last day, the year is not the last
  year-below : last_day c ≡ false → days_in c.year c.month ≤ c.day → 12 ≤ c.month → c.year < 99
  year-below h p q = elim (dec_lt c.year 99) [
    | yes k ↦ k
    | no k ↦
        let m : c.month ≡ 12 = omega (arith, l.month_high) in
        let d : c.day ≡ 31 = omega (arith, l.day_high, days-december c.year, ap (days_in c.year) m) in
        let y : c.year ≡ 99 = omega (arith, l.year) in
        absurd (true≢false (sym (last-day c y m d) ∙ h))
  ]

  pub next-legal : last_day c ≡ false → Legal (next_day c)
  unfolding next_day
  next-legal h = elim (dec_lt c.day (days_in c.year c.month)) [
    | yes d ↦ rw (lt-ltb c.day (days_in c.year c.month) d) (midnight c.year c.month (c.day + 1) l.year l.month_low l.month_high (omega arith) (omega arith))
    | no d ↦ elim (dec_lt c.month 12) [
      | yes m ↦ rw (le-ltb c.day (days_in c.year c.month) (omega arith), lt-ltb c.month 12 m)
          (midnight c.year (c.month + 1) 1 l.year (omega arith) (omega arith) (omega arith) (omega (arith, days-some c.year (c.month + 1))))
      | no m ↦ rw (le-ltb c.day (days_in c.year c.month) (omega arith), le-ltb c.month 12 (omega arith))
          (midnight (c.year + 1) 1 1 (omega (arith, year-below h (omega arith) (omega arith))) (omega arith) (omega arith) (omega arith) (omega (arith, days-some (c.year + 1) 1)))
    ]
  ]

-- ---- one second

-- another time of the same day
at-clock : (c : Clock) (h m s : ℕ) → h ≤ 23 → m ≤ 59 → s ≤ 59 → Legal c → Legal (clock c.year c.month c.day h m s)
at-clock c h m s p q r l = record {
  year = l.year;
  month_low = l.month_low;
  month_high = l.month_high;
  day_low = l.day_low;
  day_high = l.day_high;
  hour = p;
  minute = q;
  second = r;
}

tick-facts : (c : Clock) → Legal c → Legal (tick c)
unfolding tick
tick-facts c l = elim (dec_lt c.second 59) [
  | yes s ↦ rw (lt-ltb c.second 59 s) (at-clock c c.hour c.minute (c.second + 1) l.hour l.minute (omega arith) l)
  | no s ↦ rw (le-ltb c.second 59 (omega arith)) (elim (dec_lt c.minute 59) [
    | yes m ↦ rw (lt-ltb c.minute 59 m) (at-clock c c.hour (c.minute + 1) 0 l.hour (omega arith) (omega arith) l)
    | no m ↦ rw (le-ltb c.minute 59 (omega arith)) (elim (dec_lt c.hour 23) [
      | yes h ↦ rw (lt-ltb c.hour 23 h) (at-clock c (c.hour + 1) 0 0 (omega arith) (omega arith) (omega arith) l)
      | no h ↦ rw (le-ltb c.hour 23 (omega arith)) (day (last_day c) refl)
    ])
  ])
]
  where
    day : (b : Bool) → last_day c ≡ b → Legal (cond b c (next_day c))
    day true e = l
    day false e = next-legal c l e

pub tick-legal : (c : Clock) → legal_clock c ≡ true → legal_clock (tick c) ≡ true
tick-legal c h = facts-legal (tick c) (tick-facts c (legal-facts c h))

-- ---- any number of seconds

-- a legal clock stays legal
pub after-legal : (c : Clock) (n : ℕ) → legal_clock c ≡ true → legal_clock (after c n) ≡ true
unfolding after
after-legal c zero h = h
after-legal c (suc n) h = after-legal (tick c) n (tick-legal c h)

-- so it never goes past 2099
pub never-past : (c : Clock) (n : ℕ) → legal_clock c ≡ true → (after c n).year ≤ 99
never-past c n h = (legal-facts (after c n) (after-legal c n h)).year

-- moving by m and then by n is moving by m + n
pub after-after : (c : Clock) (m n : ℕ) → after (after c m) n ≡ after c (m + n)
unfolding after
after-after c zero n = rw zero-add
after-after c (suc m) n = rw suc-add (after-after (tick c) m n)

-- it stands at the last second
pub after_last : (n : ℕ) → after last n ≡ last
unfolding after tick last last_day
after_last zero = refl
after_last (suc n) = after_last n

-- ---- a day at once

same-time : (c : Clock) {h h' m m' s s' : ℕ} → h ≡ h' → m ≡ m' → s ≡ s'
    → clock c.year c.month c.day h m s ≡ clock c.year c.month c.day h' m' s'
same-time c p q r = rw (p, q, r)

module _ (c : Clock) where
  tick-within : (t : ℕ) → t + 1 < 86400 → tick (at_time c t) ≡ at_time c (t + 1)
  unfolding tick
  tick-within t b = elim (dec_lt (t % 60) 59) [
    | yes s ↦ rw (lt-ltb (t % 60) 59 s) (same-time c (omega arith) (omega arith) (omega arith))
    | no s ↦ rw (le-ltb (t % 60) 59 (omega arith)) (elim (dec_lt (t / 60 % 60) 59) [
      | yes m ↦ rw (lt-ltb (t / 60 % 60) 59 m) (same-time c (omega arith) (omega arith) (omega arith))
      | no m ↦ rw (le-ltb (t / 60 % 60) 59 (omega arith), lt-ltb (t / 60 / 60 % 24) 23 (omega arith)) (same-time c (omega arith) (omega arith) (omega arith))
    ])
  ]

  within : (n t : ℕ) → t + n < 86400 → after (at_time c t) n ≡ at_time c (t + n)
  unfolding after
  within zero t b = rw add-zero
  within (suc n) t b =
      ap (λ (d : Clock). after d n) (tick-within t (omega arith))
      ∙ (within n (t + 1) (omega arith) ∙ ap (at_time c) (let e : t + 1 + n ≡ t + suc n = omega arith in e))

  tick-next : last_day c ≡ false → tick (at_time c 86399) ≡ next_day c
  unfolding tick last_day next_day
  tick-next h = rw h

  at_last : last_day c ≡ true → at_time c 86399 ≡ last
  unfolding last
  at_last h = let f = last-facts c h in rw (f.0, f.1, f.2)

  next-midnight : next_day c ≡ at_time (next_day c) 0
  unfolding next_day
  next-midnight = go (ltb c.day (days_in c.year c.month)) (ltb c.month 12)
    where
      pick : Bool → Bool → Clock
      pick a b = cond a (clock c.year c.month (c.day + 1) 0 0 0) (cond b (clock c.year (c.month + 1) 1 0 0 0) (clock (c.year + 1) 1 1 0 0 0))

      go : (a b : Bool) → pick a b ≡ at_time (pick a b) 0
      go true b = refl
      go false true = refl
      go false false = refl

module _ (c : Clock) (n : ℕ) (l : Legal c) where
  time-back : at_time c (time_of c) ≡ c
  time-back = same-time c (omega (arith, l.hour, l.minute, l.second)) (omega (arith, l.minute, l.second)) (omega (arith, l.second))

  -- within the day
  pub after_same : time_of c + n < 86400 → after c n ≡ at_time c (time_of c + n)
  after_same h = ap (λ (d : Clock). after d n) (sym time-back) ∙ within c n (time_of c) h

  -- past midnight: to the day's last second, and from there on
  past-midnight : 86400 ≤ time_of c + n → after c n ≡ after (at_time c 86399) (suc (time_of c + n - 86400))
  past-midnight h =
      let k : time_of c ≤ 86399 = omega (arith, l.hour, l.minute, l.second) in
      ap (after c) (let e : n ≡ (86399 - time_of c) + suc (time_of c + n - 86400) = omega arith in e)
      ∙ (sym (after-after c (86399 - time_of c) (suc (time_of c + n - 86400)))
      ∙ ap (λ (d : Clock). after d (suc (time_of c + n - 86400)))
      (ap (λ (d : Clock). after d (86399 - time_of c)) (sym time-back)
      ∙ (within c (86399 - time_of c) (time_of c) (omega arith) ∙ ap (at_time c) (let e : time_of c + (86399 - time_of c) ≡ 86399 = omega arith in e))))

  pub after_next : 86400 ≤ time_of c + n → n ≤ 86400 → last_day c ≡ false → after c n ≡ at_time (next_day c) (time_of c + n - 86400)
  unfolding after
  after_next h b e =
      past-midnight h
      ∙ (ap (λ (d : Clock). after d (time_of c + n - 86400)) (tick-next c e ∙ next-midnight c)
      ∙ (within (next_day c) (time_of c + n - 86400) 0 (omega (arith, l.hour, l.minute, l.second)) ∙ ap (at_time (next_day c)) (zero-add (time_of c + n - 86400))))

  pub after_stop : 86400 ≤ time_of c + n → last_day c ≡ true → after c n ≡ last
  after_stop h e = past-midnight h ∙ (ap (λ (d : Clock). after d (suc (time_of c + n - 86400))) (at_last c e) ∙ after_last (suc (time_of c + n - 86400)))

-- ---- the clock call

-- where the call moves the clock, it was legal, at most a day passed, and the clock is where its seconds bring it
pub moved_to : (c d : Clock) (n : ℕ) → moved c n ≡ Ok d → (legal_clock c ≡ true) × (n ≤ 86400) × (d ≡ after c n)
unfolding moved
moved_to c d n = go (legal_clock c) (leb n 86400) refl refl
  where
    go : (a b : Bool) → legal_clock c ≡ a → leb n 86400 ≡ b → cond a (cond b (Ok (after c n)) (Err TooLong)) (Err NoClock) ≡ Ok d
        → (legal_clock c ≡ true) × (n ≤ 86400) × (d ≡ after c n)
    go true true p q e = (p, leb-true n 86400 q, let z : after c n ≡ d = cc in sym z)
    go true false p q e = absurd (let z : ◌≡◌ {A = ℕ} 0 1 = cc in omega arith)
    go false b p q e = absurd (let z : ◌≡◌ {A = ℕ} 0 1 = cc in omega arith)

-- and it is legal again
pub moved-legal : (c d : Clock) (n : ℕ) → moved c n ≡ Ok d → legal_clock d ≡ true
moved-legal c d n e = let m = moved_to c d n e in rw m.2 (after-legal c n m.0)
