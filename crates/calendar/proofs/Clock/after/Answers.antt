use mathlib.Core.Path.{sym, ◌∙◌}
use native.Mathlib.Omega.{arith}
use Rattle.calendar.proofs.Clocks.{legal-facts}
use Rattle.calendar.proofs.Ticks.{after_same, after_next, after_stop}
use Rattle.calendar.proofs.Clock.after.Goals as goal

pub returns-then-t-lt86400 : goal.returns-then-t-lt86400
returns-then-t-lt86400 c = let s = c in
    let t = c.time_of.ensures in
    cc (after_same s.args.self s.args.seconds (legal-facts s.args.self s.requires.0) (omega arith))

pub returns-then-is_last_day : goal.returns-then-is_last_day
returns-then-is_last_day c = let s = c in
    let t = c.time_of.ensures in
    c.last.ensures ∙ sym (after_stop s.args.self s.args.seconds (legal-facts s.args.self s.requires.0) (omega arith) (sym c.is_last_day.ensures ∙ c.if-is_last_day.true))

pub next_day-requires : goal.next_day-requires
next_day-requires c = (legal-facts c.args.self c.requires.0).year

pub returns : goal.returns
returns c = let s = c in
    let t = c.time_of.ensures in
    cc (after_next s.args.self s.args.seconds (legal-facts s.args.self s.requires.0) (omega arith) s.requires.1 (sym c.is_last_day.ensures ∙ c.if-is_last_day.false))
