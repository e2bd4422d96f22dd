use borrow.Author.Tests.{lt-ltb, le-ltb}
use Rattle.contents.specs.Content.{portion_after, place_after}
use Rattle.form_lines.proofs.onward.Goals as goal

pub returns-then-at-lt255 : goal.returns-then-at-lt255
unfolding portion_after place_after
returns-then-at-lt255 c = rw (c.less-left.ensures, lt-ltb _ 255 c.if-at-lt255.true)

pub returns : goal.returns
unfolding portion_after place_after
returns c = rw (c.less-left.ensures, c.link_at-portion.ensures.0, le-ltb _ 255 c.if-at-lt255.false)
