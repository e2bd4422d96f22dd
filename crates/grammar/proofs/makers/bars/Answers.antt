use mathlib.Core.Path.{◌≡◌}
use Prim.Native.Nat.{ℕ}
use Rattle.kinds.specs.declared.Kind.{Kind}
use Rattle.kinds.specs.declared.Under.{Under}
use Rattle.grammar.specs.declared.Item.TheVariants.{Bars}
use Rattle.grammar.specs.declared.Command.{Command}
use Rattle.grammar.specs.declared.Command.TheVariants.{Item}
use Rattle.grammar.specs.Forms.{in_order}
use Rattle.grammar.proofs.makers.bars.Goals as goal

-- with its type and what stands under it read, the symbol is whole
module _ (x y r e f g at : ℕ) where
  abbrev symbol : Kind → Under → Command
  symbol k u = Item (Bars (record { x = x; y = y; r = r; kind = k; e = e; f = f; g = g; under = u; at = at }))

  both_read : (k l : Kind) (u v : Under) → k ≡ l → u ≡ v → symbol k u ≡ symbol l v
  both_read k l u v h i = λ t. symbol (h t) (i t)

pub returns : goal.returns
unfolding in_order
returns c = λ s. both_read _ _ _ _ _ _ _ _ _ _ _ c.kind_from.ensures c.under_from.ensures
