use mathlib.Core.Path.{◌≡◌}
use Prim.Native.Nat.{ℕ, ◌+◌, ◌-◌, ◌≤◌, ◌<◌}
use lib.ListN.{get_or}
use Rattle.contents.specs.Run.{copied}
use Rattle.content_lines.proofs.line_run.Given as goal

abbrev pub invariant-loop-j : goal.invariant-loop-j
invariant-loop-j l = (l.j ≤ l.m) × (l.buffer ≡ copied l.initial.buffer l.n l.store l.from l.j) × ((i : ℕ) → i < l.j → get_or l.store (l.from + i) 0 ≡ 10 → ⊥)
