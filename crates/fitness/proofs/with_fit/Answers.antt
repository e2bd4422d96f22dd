use Rattle.std.proofs.lemmas.Result.{err_from_is_err_and}
use Rattle.fitness.proofs.with_fit.Goals as goal

pub returns-in_err-answer : goal.returns-in_err-answer
returns-in_err-answer c = let p = err_from_is_err_and c.from_residual.result c.from_residual.ensures.1 in rw (p.1, p.2, c.in_err-answer.was)
