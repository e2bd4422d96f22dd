-- What lies outside a chain may change, and the chain and its bytes stay.
use mathlib.Core.Path.{◌≡◌, refl, ap}
use mathlib.Core.List.{List, [], ◌∷◌}
use mathlib.Core.Bool.{Bool, true, ◌&&◌}
use mathlib.Core.Logic.{⊎_elim}
use Prim.Native.Nat.{ℕ, zero, suc, ◌<◌}
use native.Mathlib.Omega.{arith}
use lib.ListN.{length, get_or}
use lib.Dec.{ltb}
use borrow.Author.Tests.{ltb-true}
use Rattle.cells.specs.Count.{times}
use Rattle.store.specs.Chain.{chain, chain_ok, portion, bytes_of}
use Rattle.cells.proofs.Counts.{one-yes, one-no}
use Rattle.ground.proofs.Tests.{same?, and_left, and_right}

-- ---- links

-- the two tables agree at each portion of ps
abbrev pub Agree : List ℕ → List ℕ → List ℕ → Type 0
Agree ps ls ls' = (q : ℕ) → 0 < times q ps → get_or ls' q 0 ≡ get_or ls q 0

agree-head : (p : ℕ) (ps ls ls' : List ℕ) → Agree (p ∷ ps) ls ls' → get_or ls' p 0 ≡ get_or ls p 0
agree-head p ps ls ls' h = h p (omega (arith, one-yes p p refl))

agree-tail : (p : ℕ) (ps ls ls' : List ℕ) → Agree (p ∷ ps) ls ls' → Agree ps ls ls'
agree-tail p ps ls ls' h q i = h q (omega arith)

pub chain-frame : (ls ls' : List ℕ) (p n : ℕ) → Agree (chain ls p n) ls ls' → chain ls' p n ≡ chain ls p n
chain-frame ls ls' p zero h = refl
chain-frame ls ls' p (suc n) h =
    rw (agree-head p (chain ls (get_or ls p 0) n) ls ls' h)
    (ap (λ (t : List ℕ). p ∷ t) (chain-frame ls ls' (get_or ls p 0) n (agree-tail p (chain ls (get_or ls p 0) n) ls ls' h)))

pub chain_ok-frame : (ls ls' : List ℕ) (p n : ℕ) → length ls' ≡ length ls → Agree (chain ls p n) ls ls' → chain_ok ls' p n ≡ chain_ok ls p n
chain_ok-frame ls ls' p zero e h = refl
chain_ok-frame ls ls' p (suc n) e h =
    rw (agree-head p (chain ls (get_or ls p 0) n) ls ls' h, e)
    (ap (λ (t : Bool). ltb p (length ls) && t) (chain_ok-frame ls ls' (get_or ls p 0) n e (agree-tail p (chain ls (get_or ls p 0) n) ls ls' h)))

-- each portion of a chain is one of the store
pub chain-below : (ls : List ℕ) (p n : ℕ) → chain_ok ls p n ≡ true → (q : ℕ) → 0 < times q (chain ls p n) → q < length ls
chain-below ls p zero h q i = absurd (omega arith)
chain-below ls p (suc n) h q i = ⊎_elim
    (λ (e : p ≡ q). rw (← e) (ltb-true p (length ls) (and_left (ltb p (length ls)) (chain_ok ls (get_or ls p 0) n) h)))
    (λ (ne : p ≡ q → ⊥). chain-below ls (get_or ls p 0) n (and_right (ltb p (length ls)) (chain_ok ls (get_or ls p 0) n) h) q (omega (arith, one-no p q ne)))
    (same? p q)

-- ---- bytes

pub bytes-frame : (st st' ps : List ℕ) → ((q : ℕ) → 0 < times q ps → portion st' q ≡ portion st q) → bytes_of st' ps ≡ bytes_of st ps
bytes-frame st st' [] h = refl
bytes-frame st st' (p ∷ ps) h = rw (h p (omega (arith, one-yes p p refl)), bytes-frame st st' ps (λ q i. h q (omega arith)))
