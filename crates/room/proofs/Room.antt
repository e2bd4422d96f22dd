-- Whether bytes can be put behind an entry, as the code asks for it.
use mathlib.Core.Path.{◌≡◌, sym, ◌∙◌}
use mathlib.Core.List.{List}
use mathlib.Core.Bool.{false}
use Prim.Native.Nat.{ℕ, ◌+◌, ◌-◌, ◌≤◌, ◌<◌}
use native.Mathlib.Omega.{arith}
use lib.Dec.{leb}
use borrow.Author.Tests.{eq-eqb, ne_eqb, lt-ltb, le-ltb}
use Rattle.store.specs.Chain.{needed}
use Rattle.store.specs.Entry.{kind, size}
use Rattle.room.specs.Room.{can_grow}

module _ (free : ℕ) (e : List ℕ) (k s more : ℕ) (ek : k ≡ kind e) (es : s ≡ size e) where
  pub grow-none : k ≡ 0 → false ≡ can_grow free e more
  unfolding can_grow
  grow-none z = rw (eq-eqb (kind e) 0 (sym ek ∙ z))

  pub grow-long : (k ≡ 0 → ⊥) → 4294967295 - s < more → false ≡ can_grow free e more
  unfolding can_grow
  grow-long n h = rw (ne_eqb (kind e) 0 (λ z. n (ek ∙ z)), le-ltb (size e + more) 4294967296 (omega arith))

  pub grow-free : (a b : ℕ) → (k ≡ 0 → ⊥) → s < 4294967296 → more ≤ 4294967295 - s → a ≡ needed (s + more) → b ≡ needed s → leb (a - b) free ≡ can_grow free e more
  unfolding can_grow
  grow-free a b n small h ea eb =
      rw (ne_eqb (kind e) 0 (λ z. n (ek ∙ z)), lt-ltb (size e + more) 4294967296 (omega arith), ← es, ea, eb)
