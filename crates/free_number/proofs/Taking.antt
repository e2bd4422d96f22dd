-- The number after a command, as the code reckons it: 16 bits are kept, and sums stop at the greatest number there is.
-- Assumes nothing.
use mathlib.Core.Path.{◌≡◌, ap, ◌∙◌}
use Prim.Native.Nat.{ℕ, ◌+◌, ◌-◌, ◌<◌}
use native.Mathlib.Omega.{arith}
use Rattle.ground.specs.Numbers.{capped}
use Rattle.store.specs.Chain.{needed}
use Rattle.room.specs.Room.{needed_for}
use Rattle.session.specs.declared.Session.{Session}
use Rattle.session.specs.Session.{roomed, sixteen_bits}

module _ (s : Session) (n x kept : ℕ) (after : Session) (k : kept ≡ sixteen_bits x) (r : after ≡ roomed s kept) where
  -- n portions are taken of those that were free
  pub taken_is : s.free < 65536 → x ≡ s.free - n → after ≡ roomed s (s.free - n)
  taken_is low e = r ∙ ap (roomed s) (let z : kept ≡ s.free - n = omega arith in z)

  -- n portions are free again
  pub freed-is : x ≡ capped (s.free + n) → after ≡ roomed s (sixteen_bits (s.free + n))
  freed-is e = r ∙ ap (roomed s) (let z : kept ≡ sixteen_bits (s.free + n) = omega arith in z)

  -- n portions, counted up to the greatest number
  pub all-freed-is : (m : ℕ) → m ≡ capped n → x ≡ capped (s.free + m) → after ≡ roomed s (sixteen_bits (s.free + n))
  all-freed-is m c e = r ∙ ap (roomed s) (let z : kept ≡ sixteen_bits (s.free + n) = omega arith in z)

-- what so many bytes more need, by the portions before and after
pub needs-more : (size s more before after n : ℕ) → s ≡ size → before ≡ needed s → after ≡ needed (s + more) → n ≡ after - before → n ≡ needed_for size more
needs-more size s more before after n es eb ea e = e ∙ (λ j. ea j - eb j) ∙ ap (λ (x : ℕ). needed_for x more) es
