use Rattle.formats.specs.Formats.{example}
use Rattle.formats.proofs.Format.example.Goals as goal

pub returns-in-Date : goal.returns-in-Date
unfolding example
returns-in-Date c = rw c.in-Date.is

pub returns-in-Time : goal.returns-in-Time
unfolding example
returns-in-Time c = rw c.in-Time.is
