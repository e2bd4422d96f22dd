use mathlib.Core.Path.{◌≡◌}
use Prim.Native.Nat.{◌*◌, min}
use lib.ListN.{length as len}
use Rattle.dots.specs.Dots.{drawn, cut}
use Rattle.figures.specs.Figures.{bit_row, row_of, shifted, placed}
use Rattle.bitmaps.proofs.ink_bytes.Given as goal

abbrev pub invariant-loop-k : goal.invariant-loop-k
invariant-loop-k l = (l.page ≡ drawn l.ink (cut l.spot.corner.size.width l.spot.corner.size.length (placed 0 l.spot.wide l.spot.high l.spot.corner.x l.spot.corner.y (shifted l.row.d (row_of (bit_row l.row.bits.now l.row.at) (min (l.k * 8) l.row.wide) 1 l.row.v0 l.row.v1)))) l.initial.page) × (len l.page ≡ len l.initial.page)
