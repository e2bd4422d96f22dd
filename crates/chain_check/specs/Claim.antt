-- Serves the code alone: a walk over all chains that marks each portion it meets, by which `chains_ok` is decided in one pass over the chains.
use Rattle.std.specs.Prelude.{◌≡◌, List, Bool, true, ◌&&◌, ◌||◌, cond, ℕ, zero, suc, ◌<◌, length, get_or, set, eqb, ltb}
use Rattle.store.specs.Chain.{end_link, is_free, chain_ok}
use Rattle.store_sound.specs.Sound.{uses}

-- A walk that marks each portion of the chain of n portions from p: it holds where that is a chain and no portion was marked before, by an earlier
-- chain or by this one.
abbrev pub claim_ok : List ℕ → List ℕ → ℕ → ℕ → Bool
claim_ok links marks p zero = eqb p end_link
claim_ok links marks p (suc n) = ltb p (length links) && (eqb (get_or marks p 0) 0 && claim_ok links (set marks p 1) (get_or links p 0) n)

-- the claim of an entry that starts at f and has k portions: none is always met
unfoldable pub claim_entry : List ℕ → List ℕ → ℕ → ℕ → Bool
claim_entry links marks f k = eqb k 0 || claim_ok links marks f k

-- A walk over all entries has claimed each one's portions: each mark says how often its portion is used.
pub record Claimed (links : List ℕ) (fs ns : ℕ → ℕ) (n : ℕ) (marks : List ℕ) : Type 0 where
  pub chained : (i : ℕ) → i < n → (ns i ≡ 0 → ⊥) → chain_ok links (fs i) (ns i) ≡ true
  pub marked : (q : ℕ) → q < length links → get_or marks q 0 ≡ uses links fs ns q n

-- the mark of portion q is what its link asks: 0 if it is free, else 1
abbrev pub mark_fits : List ℕ → List ℕ → ℕ → Bool
mark_fits links marks q = eqb (get_or marks q 0) (cond (is_free links q) 0 1)
