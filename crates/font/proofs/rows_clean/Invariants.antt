use mathlib.Core.Path.{◌≡◌}
use Prim.Native.Nat.{◌+◌, ◌-◌, ◌*◌, ◌^◌, ◌<◌}
use Rattle.font.specs.Rules.{cell_height, rows_clean}
use Rattle.font.proofs.rows_clean.Given as goal

abbrev pub invariant-loop-i : goal.invariant-loop-i
invariant-loop-i l = (l._i-end < 256) × (l._i-end ≡ cell_height l.font) × (0 < l.row) × (l.row + (l._i-end - l._i) * 256 < 2 ^ 31 + 65536) × (rows_clean l.font (l._i-end - l._i) l.row ≡ rows_clean l.font (cell_height l.font) l.at)
