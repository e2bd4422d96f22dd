-- "Opening clears all lent memory (output aside), frees all portions": what it makes of store, links and directory.
use Rattle.std.specs.Prelude.{length, replicate}
use Rattle.cells.specs.Cell.{zeros}
use Rattle.store.specs.Chain.{free_link}
use Rattle.memory.specs.Memory.{Memory, memory}

abbrev pub cleared : Memory → Memory
cleared m = memory (zeros (length m.store)) (replicate (length m.links) free_link) (zeros (length m.directory))
