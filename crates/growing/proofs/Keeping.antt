-- Keeping bytes whole, as the code does it.
use mathlib.Core.Path.{◌≡◌, ◌∙◌}
use mathlib.Core.List.{List}
use Prim.Native.Nat.{ℕ}
use Rattle.memory.specs.Memory.{Memory}
use Rattle.room.specs.Room.{lowest_entry}
use Rattle.starting.specs.Start.{begun}
use Rattle.growing.specs.Grow.{grown}
use Rattle.growing.specs.Keep.{kept}

pub kept-is : (m : Memory) (k : ℕ) (n bytes : List ℕ) (i : ℕ) (m₁ m₂ : Memory) → i ≡ lowest_entry m.directory → m₁ ≡ begun m k n → m₂ ≡ grown m₁ i bytes → m₂ ≡ kept m k n bytes
unfolding kept
kept-is m k n bytes i m₁ m₂ a b c = c ∙ (λ j. grown (b j) (a j) bytes)
