-- Type 1 as paper 02, §9, asks for it: its elements are those of the shortest writing, whatever way that was found.
-- Assumes nothing.
use mathlib.Core.Path.{◌≡◌, ap, sym, ◌∙◌}
use mathlib.Core.Bool.{true}
use mathlib.Core.List.{List}
use Prim.Native.Nat.{ℕ}
use Rattle.kinds.specs.declared.Kind.TheVariants.{Code128}
use Rattle.kinds.specs.Fit.{fit}
use Rattle.code128.specs.Code128.{elements128}
use Rattle.shortest.specs.Writing.{Shortest}
use Rattle.shortest.specs.Found.{our_writing}
use Rattle.shortest.proofs.Shortest.{shortest-ours}
use Rattle.symbols.specs.Elements.{elements_in, elements}

pub elements-ours : (s : List ℕ) → fit Code128 s ≡ true → elements Code128 s ≡ elements128 (our_writing s)
unfolding elements elements_in
elements-ours s h = rw h

pub elements-shortest : (s v : List ℕ) → fit Code128 s ≡ true → Shortest s v → elements Code128 s ≡ elements128 v
elements-shortest s v h p = elements-ours s h ∙ ap elements128 (sym (shortest-ours s v h p))
