use mathlib.Core.Path.{sym, ◌∙◌}
use borrow.Author.Tests.{lt-ltb, le-ltb}
use Rattle.lent.specs.Lent.{world}
use Rattle.commands.proofs.Kept.{short-read}
use Rattle.commands.proofs.Ends.{lengths-by, long-by, line_read, fault-by}
use Rattle.commands.proofs.lines.run_line.Goals as goal

pub returns-then-lengths_wrong : goal.returns-then-lengths_wrong
returns-then-lengths_wrong c = rw c.answered.ensures (lengths-by c.args.font.now (world c.args.background.now c.args.store.now c.args.links.now c.args.directory.now c.args.values.now) c.args.session c.args.line.now c.args.more.now c.args.output.now (sym c.lengths_wrong.ensures ∙ c.if-lengths_wrong.true))

pub returns-then-line-gt255 : goal.returns-then-line-gt255
returns-then-line-gt255 c = rw c.answered-then-line-gt255.ensures (long-by c.args.font.now (world c.args.background.now c.args.store.now c.args.links.now c.args.directory.now c.args.values.now) c.args.session c.args.line.now c.args.more.now c.args.output.now (sym c.lengths_wrong.ensures ∙ c.if-lengths_wrong.false) (lt-ltb _ _ c.if-line-gt255.true))

pub on_command-requires : goal.on_command-requires
on_command-requires c = short-read _ _ _ c.if-line-gt255.false (sym c.read_line.ensures ∙ c.in-Ok.is)

pub returns-in-Ok : goal.returns-in-Ok
returns-in-Ok c = c.on_command.ensures
    ∙ line_read c.args.font.now (world c.args.background.now c.args.store.now c.args.links.now c.args.directory.now c.args.values.now) c.args.session c.args.line.now c.args.more.now c.args.output.now _ (sym c.lengths_wrong.ensures ∙ c.if-lengths_wrong.false) (le-ltb _ _ c.if-line-gt255.false)
    (sym c.read_line.ensures ∙ c.in-Ok.is)

pub returns-in-Err : goal.returns-in-Err
returns-in-Err c = rw (c.answered-in-Err.ensures, c.fault_answer.ensures)
    (fault-by c.in-Err.fault c.args.font.now (world c.args.background.now c.args.store.now c.args.links.now c.args.directory.now c.args.values.now) c.args.session c.args.line.now c.args.more.now c.args.output.now
    ∙ line_read c.args.font.now (world c.args.background.now c.args.store.now c.args.links.now c.args.directory.now c.args.values.now) c.args.session c.args.line.now c.args.more.now c.args.output.now _ (sym c.lengths_wrong.ensures ∙ c.if-lengths_wrong.false) (le-ltb _ _ c.if-line-gt255.false)
    (sym c.read_line.ensures ∙ c.in-Err.is))
