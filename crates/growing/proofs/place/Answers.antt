use mathlib.Core.Path.{sym}
use Rattle.growing.proofs.Growth.{next-in, next-first, next-hung}
use Rattle.growing.proofs.place.Goals as goal

pub returns-then-size-ne0-clause-last : goal.returns-then-size-ne0-clause-last
returns-then-size-ne0-clause-last c = sym (next-in _ _ _ c.if-size-ne0.true).0

pub returns-then-size-ne0-clause-links : goal.returns-then-size-ne0-clause-links
returns-then-size-ne0-clause-links c = sym (next-in _ c.args.last _ c.if-size-ne0.true).1

pub returns-then-size-eq0-clause-last : goal.returns-then-size-eq0-clause-last
returns-then-size-eq0-clause-last c = sym (next-first _ _ _ c.if-size-eq0.true).0

pub returns-then-size-eq0-clause-links : goal.returns-then-size-eq0-clause-links
returns-then-size-eq0-clause-links c = sym (next-first _ c.args.last _ c.if-size-eq0.true).1

pub returns-clause-last : goal.returns-clause-last
returns-clause-last c = (next-hung _ _ _ _ _ _ c.if-size-ne0.false c.if-size-eq0.false c.lowest_portion-q.ensures c.put_link.ensures c.put_link-2.ensures).0

pub returns-clause-links : goal.returns-clause-links
returns-clause-links c = (next-hung _ _ _ _ _ _ c.if-size-ne0.false c.if-size-eq0.false c.lowest_portion-q.ensures c.put_link.ensures c.put_link-2.ensures).1
