-- Links, one at a time.
use mathlib.Core.Path.{◌≡◌}
use mathlib.Core.List.{List}
use Prim.Native.Nat.{ℕ, suc, ◌+◌, ◌-◌, ◌*◌, ◌≤◌, ◌<◌}
use native.Mathlib.Omega.{arith}
use lib.ListN.{get_or, set}
use lib.Seq.{sets}
use Rattle.low_first.specs.Low.{number_at, bytes_of}
use Rattle.ground.proofs.Stores.{sets-append}
use Rattle.lasting.specs.File.{link_bytes, links_from}

-- the links from link i on, still to be taken from the file
abbrev pub taking : List ℕ → ℕ → ℕ → List ℕ → List ℕ
taking file at i links = sets links i (links_from (2024 - i) file (at + 2 * i))

module _ (file : List ℕ) (at i : ℕ) (links : List ℕ) where
  pub take_next : i < 2024 → taking file at i links ≡ taking file at (i + 1) (set links i (number_at 2 file (at + 2 * i)))
  unfolding links_from
  take_next h = go (2024 - i) (2024 - (i + 1)) (i + 1) (at + 2 * i) (at + 2 * (i + 1)) (omega arith) (omega arith) (omega arith)
    where
      go : (n m j a b : ℕ) → n ≡ suc m → j ≡ suc i → b ≡ 2 + a → sets links i (links_from n file a) ≡ sets (set links i (number_at 2 file a)) j (links_from m file b)
      go n m j a b p q e = rw (p, q, e)

  pub take-end : 2024 ≤ i → taking file at i links ≡ links
  unfolding links_from
  take-end h = let e : 2024 - i ≡ 0 = omega arith in rw e

pub start-taking : (file : List ℕ) (at : ℕ) (links : List ℕ) → taking file at 0 links ≡ sets links 0 (links_from 2024 file at)
start-taking file at links = let e : at + 2 * 0 ≡ at = omega arith in rw e

-- the links from link i on, still to be put into the file
abbrev pub putting : List ℕ → ℕ → ℕ → List ℕ → List ℕ
putting links at i file = sets file (at + 2 * i) (link_bytes (2024 - i) i links)

module _ (links : List ℕ) (at i : ℕ) (file : List ℕ) where
  pub put_next : i < 2024 → putting links at i file ≡ putting links at (i + 1) (sets file (at + 2 * i) (bytes_of 2 (get_or links i 0)))
  unfolding link_bytes bytes_of
  put_next h = go (2024 - i) (2024 - (i + 1)) (i + 1) (at + 2 * i) (at + 2 * (i + 1)) (omega arith) (omega arith) (omega arith)
    where
      go : (n m j a b : ℕ) → n ≡ suc m → j ≡ suc i → b ≡ a + 2
          → sets file a (link_bytes n i links) ≡ sets (sets file a (bytes_of 2 (get_or links i 0))) b (link_bytes m j links)
      go n m j a b p q e = rw (p, q, e) (sets-append file a (bytes_of 2 (get_or links i 0)) (link_bytes m (suc i) links))

  pub put-end : 2024 ≤ i → putting links at i file ≡ file
  unfolding link_bytes
  put-end h = let e : 2024 - i ≡ 0 = omega arith in rw e

pub start-putting : (links : List ℕ) (at : ℕ) (file : List ℕ) → putting links at 0 file ≡ sets file at (link_bytes 2024 0 links)
start-putting links at file = let e : at + 2 * 0 ≡ at = omega arith in rw e
