use mathlib.Core.Path.{◌≡◌}
use Prim.Native.Nat.{◌+◌, ◌-◌, ◌*◌, ◌^◌, ◌≤◌}
use Rattle.font.specs.Rules.{fields_from}
use Rattle.font.proofs.fields_ok.Given as goal

abbrev pub invariant-loop-i : goal.invariant-loop-i
invariant-loop-i l = (l.at + (96 - l._i) * 65539 ≤ 2 ^ 29) × (fields_from l.font (96 - l._i) l.last l.at ≡ fields_from l.font 96 31 5)
