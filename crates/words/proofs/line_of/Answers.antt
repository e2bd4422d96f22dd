use Rattle.words.proofs.Table.{line-found}
use Rattle.words.proofs.line_of.Goals as goal

pub returns : goal.returns
returns c = line-found c.args.text.now c.args.k c.line_start.result c.back-rest.ensures c.line_start.ensures c.run_end.ensures c.front.ensures
