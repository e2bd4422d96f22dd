use Rattle.answers.specs.Answers.{answer_of}
use Rattle.sound.proofs.checks.entry_answer.Goals as goal

pub returns-then-wrong : goal.returns-then-wrong
unfolding answer_of
returns-then-wrong c = rw c.if-wrong.true

pub returns-then-not-is_legal : goal.returns-then-not-is_legal
unfolding answer_of
returns-then-not-is_legal c = rw (c.if-wrong.false, ← c.is_legal.ensures, c.if-not-is_legal.true)

pub returns-then-not-is_sound : goal.returns-then-not-is_sound
unfolding answer_of
returns-then-not-is_sound c = rw (c.if-wrong.false, ← c.is_legal.ensures, c.if-not-is_legal.false, ← c.is_sound.ensures, c.if-not-is_sound.true)

pub returns : goal.returns
unfolding answer_of
returns c = rw (c.if-wrong.false, ← c.is_legal.ensures, c.if-not-is_legal.false, ← c.is_sound.ensures, c.if-not-is_sound.false)
