use Rattle.item_commands.proofs.Around.{item_refused, item_room, item-full}
use mathlib.Core.Bool.{not}
use mathlib.Core.Path.{ap}
use Rattle.commands.proofs.records.record_answer.Goals as goal

pub returns-then-not-is_taken : goal.returns-then-not-is_taken
returns-then-not-is_taken c = rw (← c.declared_at-d.ensures) (item_refused _ _ _ _ _ _ _ c.item_answer-a.ensures c.is_taken.ensures (ap not c.if-not-is_taken.true))

pub returns-then-can_grow : goal.returns-then-can_grow
returns-then-can_grow c = rw (← c.declared_at-d.ensures, ← c.can_grow.ensures)
    (item_room _ _ _ _ _ _ _ c.item_answer-a.ensures c.is_taken.ensures (ap not c.if-not-is_taken.false) c.if-can_grow.true)

pub returns : goal.returns
returns c = rw (← c.declared_at-d.ensures, ← c.can_grow.ensures)
    (item-full _ _ _ _ _ _ _ c.item_answer-a.ensures c.is_taken.ensures (ap not c.if-not-is_taken.false) c.if-can_grow.false)
