use native.Mathlib.Omega.{arith}
use Rattle.room.proofs.Room.{grow-none, grow-long, grow-free}
use mathlib.Core.Path.{refl}
use Rattle.room.proofs.can_grow.Goals as goal

pub returns-then-kind_at-eq0 : goal.returns-then-kind_at-eq0
returns-then-kind_at-eq0 c = grow-none _ _ _ _ _ c.kind_at.ensures.0 refl c.if-kind_at-eq0.true

pub overflow_sub-s : goal.overflow_sub-s
overflow_sub-s c = omega (arith, c.size_at-s.ensures.1)

pub returns-then-s-more : goal.returns-then-s-more
returns-then-s-more c = grow-long _ _ _ _ _ c.kind_at.ensures.0 c.size_at-s.ensures.0 c.if-kind_at-eq0.false c.if-s-more.true

pub overflow_add-s : goal.overflow_add-s
overflow_add-s c = omega (arith, c.size_at-s.ensures.1, c.if-s-more.false)

pub overflow_sub-result : goal.overflow_sub-result
overflow_sub-result c = omega (arith, c.needed_for.ensures, c.needed_for-2.ensures)

pub returns : goal.returns
returns c = grow-free _ _ _ _ _ c.kind_at.ensures.0 c.size_at-s.ensures.0 _ _ c.if-kind_at-eq0.false c.size_at-s.ensures.1 c.if-s-more.false c.needed_for.ensures c.needed_for-2.ensures
