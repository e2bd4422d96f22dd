use mathlib.Core.Path.{ap}
use Rattle.calls.specs.Station.{read_as}
use Rattle.station.proofs.commanding.on_line.Goals as goal

pub shape_of-background : goal.shape_of-background
shape_of-background c = c.background-1.given

pub shape_of-store : goal.shape_of-store
shape_of-store c = c.store-1.given

pub shape_of-links : goal.shape_of-links
shape_of-links c = c.links-1.given

pub shape_of-directory : goal.shape_of-directory
shape_of-directory c = c.directory-1.given

pub shape_of-values : goal.shape_of-values
shape_of-values c = c.values-1.given

pub shape_of-output : goal.shape_of-output
shape_of-output c = c.output-1.given

pub returns : goal.returns
returns c = let r = c in
    rw (c.ran.ensures, ← r.first-line.ensures, ← r.more_of-more.ensures) (ap (read_as _) r.run_line-d.ensures)
