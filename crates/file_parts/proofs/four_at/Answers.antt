use mathlib.Core.Path.{ap, ◌∙◌}
use mathlib.Core.List.{List}
use Prim.Native.Nat.{ℕ}
use Rattle.low_first.specs.Low.{number_at}
use Rattle.low_first.proofs.Numbers.{long-number}
use Rattle.file_parts.proofs.Places.{number-front}
use Rattle.file_parts.proofs.four_at.Goals as goal

pub returns : goal.returns
returns c = long-number _ _ _ _ _ c.two_at-low.ensures c.two_at-high.ensures c.joined.ensures ∙ (ap (λ (l : List ℕ). number_at 4 l 0) c.back-rest.ensures ∙ number-front 4 _ _)
