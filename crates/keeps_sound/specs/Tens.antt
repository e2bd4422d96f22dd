-- Serves the proofs alone: a session's counters are ten flags and ten values, as in every session that a call is given or gives.
-- Assumes nothing.
use Rattle.std.specs.Prelude.{◌≡◌, length}
use Rattle.session.specs.declared.Session.{Session}

pub record Tens (s : Session) : Type 0 where
  pub flags : length s.counters.set ≡ 10
  pub values : length s.counters.value ≡ 10
