use Rattle.std.proofs.Common.{rules}
use Rattle.wall_clock.proofs.today.Goals as goal

pub fresh-requires : goal.fresh-requires
fresh-requires c = search rules

-- src/lib.rt:74:29

pub since_start-requires : goal.since_start-requires
since_start-requires c = search rules

-- src/lib.rt:74:5

pub advance-requires : goal.advance-requires
advance-requires c = search rules

-- src/lib.rt:71:1

pub returns : goal.returns
returns c = rw (c.advance.ensures, c.since_start.ensures, c.fresh.ensures)
