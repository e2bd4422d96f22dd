use mathlib.Core.Path.{◌≡◌}
use Prim.Native.Nat.{◌-◌, ◌≤◌}
use lib.ListN.{length as len}
use Rattle.dots.specs.Dots.{drawn}
use Rattle.figures.specs.Figures.{bit_row, row_of, shifted, on_label}
use Rattle.bitmaps.proofs.ink_runs.Given as goal

abbrev pub invariant-loop-g : goal.invariant-loop-g
invariant-loop-g l = (l.g ≤ l.row.wide) × (l.page ≡ drawn l.ink (on_label l.spot (shifted l.row.d (row_of (bit_row l.row.bits.now l.row.at) l.g l.row.m l.row.v0 l.row.v1))) l.initial.page) × (len l.page ≡ len l.initial.page)

abbrev pub decreases-loop-g : goal.decreases-loop-g
decreases-loop-g l = l.row.wide - l.g
