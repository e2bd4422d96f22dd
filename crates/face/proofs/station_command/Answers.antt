use Rattle.face.proofs.Called.{command-wrong, command-done}
use Rattle.face.proofs.station_command.Goals as goal

pub shape_of-counts-then-either : goal.shape_of-counts-then-either
shape_of-counts-then-either c = c.counts-1.given

pub returns-then-either : goal.returns-then-either
returns-then-either c = command-wrong _ _ _ _ _ _ _ c.either.ensures _ _ c.if-either.true c.store_counts.ensures c.number.ensures

pub shape_of-session : goal.shape_of-session
shape_of-session c = c.session-1.given

pub shape_of-counts : goal.shape_of-counts
shape_of-counts c = c.counts-2-1.given

pub shape_of-background : goal.shape_of-background
shape_of-background c = c.background-1.given

pub shape_of-store : goal.shape_of-store
shape_of-store c = c.store-1.given

pub shape_of-links : goal.shape_of-links
shape_of-links c = c.links-1.given

pub shape_of-directory : goal.shape_of-directory
shape_of-directory c = c.directory-1.given

pub shape_of-values : goal.shape_of-values
shape_of-values c = c.values-1.given

pub shape_of-output : goal.shape_of-output
shape_of-output c = c.output-1.given

pub returns : goal.returns
returns c = command-done _ _ _ _ _ _ _ c.either.ensures _ _ _ _ _ _ _ _ c.if-either.false c.decode-before.ensures c.command-o.ensures c.encode.ensures c.store_counts-2.ensures c.place.ensures c.number-2.ensures
