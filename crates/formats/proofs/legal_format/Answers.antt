use Rattle.formats.specs.Formats.{legal_format}
use Rattle.formats.proofs.legal_format.Goals as goal

pub returns : goal.returns
unfolding legal_format
returns c = rw (
  c.both.ensures,
  c.either-2.ensures,
  c.new_unit.ensures,
  c.both-second.ensures,
  c.either.ensures,
  c.is_further.ensures,
  c.both-no_second.ensures,
  c.is_absent.ensures,
  c.is_further-third.ensures,
  c.is_absent-no_third.ensures,
  c.unit-v.ensures,
  c.unit-u.ensures,
)
