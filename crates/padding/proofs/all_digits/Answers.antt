use Rattle.kinds.specs.Fit.{in_class}
use Rattle.padding.proofs.all_digits.Goals as goal

pub returns : goal.returns
unfolding in_class
returns c = c.all_in.ensures
