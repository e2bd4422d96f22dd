use mathlib.Core.Path.{◌≡◌}
use Prim.Native.Nat.{◌≤◌}
use lib.ListN.{length}
use Rattle.dots.specs.Dots.{drawn}
use Rattle.dots.specs.declared.Ink.TheVariants.{Black}
use Rattle.picture.specs.Steps.{part}
use Rattle.picture.proofs.ink_run.Given as goal

abbrev pub invariant-loop-k : goal.invariant-loop-k
invariant-loop-k l = (l.q ≤ l.k) × (l.k ≤ l.end) × (l.page ≡ drawn Black (part l.p (λ _. l.v) l.q l.k) l.initial.page) × (length l.page ≡ length l.initial.page)
