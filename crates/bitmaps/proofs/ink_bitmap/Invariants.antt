use mathlib.Core.Path.{◌≡◌}
use lib.ListN.{length as len}
use Rattle.dots.specs.Dots.{drawn}
use Rattle.figures.specs.Figures.{bitmap, scaled, shifted, on_label}
use Rattle.bitmaps.proofs.ink_bitmap.Given as goal

abbrev pub invariant-loop-g : goal.invariant-loop-g
invariant-loop-g l = (l.page ≡ drawn l.ink (on_label l.spot (shifted l.d (scaled l.bitmap.wide l.g l.bitmap.hm l.bitmap.vm (bitmap l.bitmap.bits.now l.bitmap.stride)))) l.initial.page) × (len l.page ≡ len l.initial.page)
