use Rattle.counters.proofs.Tens.{entered-undeclared, entered-unfit, entered-taken}
use Rattle.counters.proofs.set_counter.Goals as goal

pub returns-then-w-lt1 : goal.returns-then-w-lt1
returns-then-w-lt1 c = let a = c.args in entered-undeclared a.d a.c a.n a.value (rw (← c.width_at-w.ensures) c.if-w-lt1.true)

pub returns-then-wide32-value : goal.returns-then-wide32-value
returns-then-wide32-value c = let a = c.args in
    entered-unfit a.d a.c a.n a.value (rw (← c.width_at-w.ensures) c.if-w-lt1.false)
    (rw (← c.width_at-w.ensures, ← c.ten.ensures, ← c.wide32.ensures) c.if-wide32-value.true)

pub returns : goal.returns
returns c = let a = c.args in
    entered-taken a.d a.c a.n a.value (rw (← c.width_at-w.ensures) c.if-w-lt1.false)
    (rw (← c.width_at-w.ensures, ← c.ten.ensures, ← c.wide32.ensures) c.if-wide32-value.false)
