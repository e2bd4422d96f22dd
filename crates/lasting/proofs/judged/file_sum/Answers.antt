use Rattle.lasting.specs.File.{file_sum}
use Rattle.lasting.proofs.judged.file_sum.Goals as goal

pub returns : goal.returns
unfolding file_sum
returns c = rw (c.sum.ensures, c.part-2.ensures, c.sum-head.ensures, c.part.ensures, c.rows.ensures.0)
