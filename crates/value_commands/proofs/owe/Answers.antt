use Rattle.answers.specs.Answers.{answer_of, is_taken, number_of}
use Rattle.value_commands.proofs.owe.Goals as goal

pub returns-then-not-active_pictures : goal.returns-then-not-active_pictures
unfolding answer_of is_taken number_of
returns-then-not-active_pictures c = rw (c.answered.ensures, ← c.active_pictures.ensures, c.if-not-active_pictures.true)

pub returns-then-not-all_set : goal.returns-then-not-all_set
unfolding answer_of is_taken number_of
returns-then-not-all_set c = rw (
  c.answered-then-not-all_set.ensures,
  ← c.active_pictures.ensures,
  c.if-not-active_pictures.false,
  ← c.active_declared-d.ensures,
  ← c.all_set.ensures,
  c.if-not-all_set.true,
)

pub returns-then-not-lasts : goal.returns-then-not-lasts
unfolding answer_of is_taken number_of
returns-then-not-lasts c = rw (
  c.answered-then-not-lasts.ensures,
  ← c.active_pictures.ensures,
  c.if-not-active_pictures.false,
  ← c.active_declared-d.ensures,
  ← c.all_set.ensures,
  c.if-not-all_set.false,
  ← c.sixteen_bits-k.ensures,
  ← c.lasts.ensures,
  c.if-not-lasts.true,
)

pub returns : goal.returns
unfolding answer_of is_taken number_of
returns c = rw (
  c.taken.ensures,
  c.owing.ensures,
  ← c.active_pictures.ensures,
  c.if-not-active_pictures.false,
  ← c.active_declared-d.ensures,
  ← c.all_set.ensures,
  c.if-not-all_set.false,
  ← c.sixteen_bits-k.ensures,
  ← c.lasts.ensures,
  c.if-not-lasts.false,
)
