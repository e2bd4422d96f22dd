use native.Mathlib.Omega.{arith}
use borrow.Author.Tests.{le-ltb}
use Rattle.reach.specs.Answers.{reaches_past}
use Rattle.reach.proofs.reaches_past.Goals as goal

pub returns-in-Whole : goal.returns-in-Whole
unfolding reaches_past
returns-in-Whole c = rw (c.in-Whole.is, le-ltb c.args.m 0 (omega arith))

pub returns-in-First : goal.returns-in-First
unfolding reaches_past
returns-in-First c = rw c.in-First.is

pub returns-in-Last : goal.returns-in-Last
unfolding reaches_past
returns-in-Last c = rw c.in-Last.is

pub returns-in-Middle : goal.returns-in-Middle
returns-in-Middle c = rw c.in-Middle.is c.middle_past.ensures
