use mathlib.Core.Path.{ap, ◌∙◌}
use mathlib.Core.List.{List}
use Prim.Native.Nat.{ℕ}
use Rattle.low_first.specs.Low.{number_at}
use Rattle.low_first.proofs.Numbers.{word_number}
use Rattle.file_parts.proofs.Places.{number-front}
use Rattle.file_parts.proofs.two_at.Goals as goal

pub returns : goal.returns
returns c = word_number _ _ _ _ _ c.byte.ensures c.byte-2.ensures c.pair.ensures ∙ (ap (λ (l : List ℕ). number_at 2 l 0) c.back-rest.ensures ∙ number-front 2 _ _)
