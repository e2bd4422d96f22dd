-- TS and the clock call lead from a sound world to a sound one.
-- Assumes nothing.
use Rattle.std.proofs.Common.{Ok}
use mathlib.Core.Path.{◌≡◌, refl, ap, ◌∙◌}
use mathlib.Core.Bool.{Bool, true, false, cond, not, ◌||◌}
use mathlib.Core.List.{List}
use Prim.Native.Nat.{ℕ, min, ◌≤◌}
use native.Mathlib.Omega.{arith}
use lib.Dec.{leb}
use borrow.Author.Tests.{leb-true, le-leb}
use Rattle.std.proofs.Common.{Result, Ok, Err}
use Rattle.calendar.specs.declared.Clock.{Clock}
use Rattle.calendar.specs.declared.Unmoved.{Unmoved}
use Rattle.calendar.specs.declared.Unmoved.TheVariants.{NoClock, TooLong}
use Rattle.calendar.specs.Clock.{legal_clock, days_in, moved}
use Rattle.calendar.proofs.Clocks.{facts-legal}
use Rattle.calendar.proofs.Ticks.{moved-legal}
use Rattle.grammar.specs.declared.SetClock.{SetClock}
use Rattle.grammar.specs.declared.Command.TheVariants.{Clock as SetsClock}
use Rattle.row_limits.specs.Limits.{day_there}
use Rattle.read.specs.Commands.{read_of}
use Rattle.activity_check.specs.Activity.{activity_sound}
use Rattle.sound.specs.Sound.{numbers_ok}
use Rattle.session.specs.declared.Session.{Session}
use Rattle.session.specs.Session.{clocked}
use Rattle.lent.specs.Lent.{World, rows_of}
use Rattle.clock_commands.specs.Clocks.{eight_bits, clock_said}
use Rattle.clock_call.specs.Passing.{passed, passed_by}
use Rattle.calls.specs.Does.{runs}
use Rattle.keeps_sound.specs.Good.{Good}
use Rattle.keeps_sound.specs.Tens.{Tens}
use Rattle.keeps_sound.proofs.Limits.{Ranged, CommandRanged, read-ranges}
use Rattle.sound.proofs.Times.{times-at}

-- ---- another clock, which is a date and a time

pub clock-good : (s : Session) (w : World) (c : Clock) → Good s w → legal_clock c ≡ true → Good (clocked s c) w
unfolding numbers_ok activity_sound
clock-good s w c g l = record {
  lengths = g.lengths;
  numbers = g.numbers;
  times = times-at s.clock c s.formats g.times l;
  background = g.background;
  store = g.store;
  free = g.free;
  contents = g.contents;
  activity = g.activity;
}

-- ---- TS: "the day checked against month and leap year"

day-there : (m d y : ℕ) → y ≤ 99 → day_there m d y ≡ true → d ≤ days_in y m
day-there m d y h e = leb-true d (days_in y m) (rw (le-leb y 99 h) at e)

small : (n m : ℕ) → n ≤ m → m ≤ 255 → eight_bits n ≡ n
small n m h l = omega arith

pub said-legal : (rows : ℕ) (c : SetClock) → CommandRanged rows (SetsClock c) → legal_clock (clock_said c) ≡ true
said-legal rows c r =
    let month = small c.month 12 r.0.1 (omega arith) in
    let day = small c.day 31 r.1.0.0.1 (omega arith) in
    let year = small c.year 99 r.1.1.0.1 (omega arith) in
    let hour = small c.hour 23 r.1.1.1.0.1 (omega arith) in
    let minute = small c.minute 59 r.1.1.1.1.0.1 (omega arith) in
    let second = small c.second 59 r.1.1.1.1.1.1 (omega arith) in
    let there = day-there c.month c.day c.year r.1.1.0.1 r.1.0.1 in
    facts-legal (clock_said c) (record {
      year = rw year r.1.1.0.1;
      month_low = rw month r.0.0;
      month_high = rw month r.0.1;
      day_low = rw day r.1.0.0.0;
      day_high = rw (day, year, month) there;
      hour = rw hour r.1.1.1.0.1;
      minute = rw minute r.1.1.1.1.0.1;
      second = rw second r.1.1.1.1.1.1;
    })

pub keeps-clock :
    (font : List ℕ) (w : World) (s : Session) (line more : List ℕ) → Good s w → (c : SetClock) → read_of (rows_of w) line ≡ Ok (SetsClock c) →
    Good (runs font w s line more (SetsClock c)).session (runs font w s line more (SetsClock c)).world
keeps-clock font w s line more g c r = clock-good s w (clock_said c) g (said-legal (rows_of w) c (read-ranges (rows_of w) line (SetsClock c) r))

-- ---- the clock call

module _ (s : Session) (w : World) (seconds : ℕ) where
  moved-good : (m : Result Clock Unmoved) → moved s.clock seconds ≡ m → Good s w → Good (passed_by s m).session w
  moved-good (Ok c) e g = clock-good s w c g (moved-legal s.clock c seconds e)
  moved-good (Err NoClock) e g = g
  moved-good (Err TooLong) e g = g

  pub pass-good : Good s w → Good (passed s seconds).session w
  unfolding passed
  pass-good = moved-good (moved s.clock seconds) refl

moved-tens : (s : Session) (m : Result Clock Unmoved) → Tens s → Tens (passed_by s m).session
moved-tens s (Ok c) t = record { flags = t.flags; values = t.values }
moved-tens s (Err NoClock) t = t
moved-tens s (Err TooLong) t = t

pub pass-tens : (s : Session) (seconds : ℕ) → Tens s → Tens (passed s seconds).session
unfolding passed
pass-tens s seconds = moved-tens s (moved s.clock seconds)
