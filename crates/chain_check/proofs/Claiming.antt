-- The walk that claims a chain, portion by portion.
use mathlib.Core.Path.{◌≡◌, refl}
use mathlib.Core.List.{List}
use mathlib.Core.Bool.{Bool, false}
use Prim.Native.Nat.{ℕ, zero, suc, ◌-◌, ◌≤◌, ◌<◌}
use native.Mathlib.Omega.{arith}
use native.Mathlib.Numerals.{sub-one}
use lib.ListN.{length, get_or, set}
use lib.Dec.{eqb, ltb}
use borrow.Author.Tests.{eq-eqb, ne_eqb, lt-ltb, le-ltb}
use Rattle.cells.specs.Count.{set_all}
use Rattle.store.specs.Chain.{chain}
use Rattle.chain_check.specs.Claim.{claim_ok}

pub claim-out : (ls ms : List ℕ) (p k : ℕ) → 0 < k → length ls ≤ p → claim_ok ls ms p k ≡ false
claim-out ls ms p zero h o = absurd (omega arith)
claim-out ls ms p (suc k) h o = rw (le-ltb p (length ls) o)

pub claim-met : (ls ms : List ℕ) (p k : ℕ) → 0 < k → (get_or ms p 0 ≡ 0 → ⊥) → claim_ok ls ms p k ≡ false
claim-met ls ms p zero h n = absurd (omega arith)
claim-met ls ms p (suc k) h n = rw (ne_eqb (get_or ms p 0) 0 n, mathlib.Core.Bool.and-false (ltb p (length ls)))

pub claim-on : (ls ms : List ℕ) (p k : ℕ) → 0 < k → p < length ls → get_or ms p 0 ≡ 0 → claim_ok ls ms p k ≡ claim_ok ls (set ms p 1) (get_or ls p 0) (k - 1)
claim-on ls ms p zero h l e = absurd (omega arith)
claim-on ls ms p (suc k) h l e = rw (lt-ltb p (length ls) l, eq-eqb (get_or ms p 0) 0 e, sub-one)

pub claim-end : (ls ms : List ℕ) (p k : ℕ) → k ≤ 0 → claim_ok ls ms p k ≡ eqb p 65534
claim-end ls ms p zero h = refl
claim-end ls ms p (suc k) h = absurd (omega arith)

pub set_all-on : (ls l : List ℕ) (v p k : ℕ) → 0 < k → set_all l (chain ls p k) v ≡ set_all (set l p v) (chain ls (get_or ls p 0) (k - 1)) v
set_all-on ls l v p zero h = absurd (omega arith)
set_all-on ls l v p (suc k) h = rw sub-one

pub set_all-end : (ls l : List ℕ) (v p k : ℕ) → k ≤ 0 → set_all l (chain ls p k) v ≡ l
set_all-end ls l v p zero h = refl
set_all-end ls l v p (suc k) h = absurd (omega arith)
