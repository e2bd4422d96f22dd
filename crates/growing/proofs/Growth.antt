-- Growing: the next portion, and the pass of `fill`.
use mathlib.Core.Path.{◌≡◌, refl, sym, ap, ◌∙◌}
use mathlib.Core.List.{List, [], ◌∷◌}
use mathlib.Core.Bool.{Bool, true, false, cond}
use Prim.Native.Nat.{ℕ, ◌+◌, ◌*◌, ◌%◌, ◌≤◌, ◌<◌}
use native.Mathlib.Omega.{arith}
use lib.ListN.{length, get_or, set, drop, length-set}
use borrow.Author.Tests.{eq-eqb, ne_eqb, lt-ltb}
use Rattle.cells.proofs.Counts.{drop-step, drop-none}
use Rattle.store.specs.Entry.{entry, size, last_of}
use Rattle.memory.specs.Memory.{memory}
use Rattle.room.specs.Room.{lowest_portion}
use Rattle.growing.specs.Grow.{full, next_last, next_links, Growing, growing, put, put_all, with_size, grown}

-- ---- the next portion

pub next-full : (ls : List ℕ) (last size : ℕ) → size % 256 ≡ 0 → 0 < size
    → (next_last ls last size ≡ lowest_portion ls) × (next_links ls last size ≡ set (set ls last (lowest_portion ls % 65536)) (lowest_portion ls) 65534)
unfolding next_last next_links
next-full ls last size e p = (rw (eq-eqb (size % 256) 0 e, lt-ltb 0 size p), rw (eq-eqb (size % 256) 0 e, lt-ltb 0 size p))

pub next-in : (ls : List ℕ) (last size : ℕ) → (size % 256 ≡ 0 → ⊥) → (next_last ls last size ≡ last) × (next_links ls last size ≡ ls)
unfolding next_last next_links
next-in ls last size n = (rw (ne_eqb (size % 256) 0 n), rw (ne_eqb (size % 256) 0 n))

pub next-first : (ls : List ℕ) (last size : ℕ) → size ≡ 0 → (next_last ls last size ≡ last) × (next_links ls last size ≡ ls)
unfolding next_last next_links
next-first ls last size e = (rw e, rw e)

-- as the code takes it
pub next-hung : (ls ls₁ ls₂ : List ℕ) (last size q : ℕ) → size % 256 ≡ 0 → (size ≡ 0 → ⊥) → q ≡ lowest_portion ls → ls₁ ≡ set ls last (q % 65536) → ls₂ ≡ set ls₁ q 65534
    → (q ≡ next_last ls last size) × (ls₂ ≡ next_links ls last size)
next-hung ls ls₁ ls₂ last size q e n k a b =
    let f = next-full ls last size e (omega arith) in
    (k ∙ sym f.0, b ∙ ap (λ (l : List ℕ). set l q 65534) a ∙ ap (λ (x : ℕ). set (set ls last (x % 65536)) x 65534) k ∙ sym f.1)

-- ---- the loop of `fill`

pub record Filling (st₀ ls₀ : List ℕ) (last size : ℕ) (bytes st ls : List ℕ) (at n i : ℕ) : Type 0 where
  pub past : i ≤ length bytes
  pub count : n ≡ size + i
  pub same : put_all (growing st ls at n) (drop i bytes) ≡ put_all (growing st₀ ls₀ last size) bytes

module _ (st₀ ls₀ : List ℕ) (last size : ℕ) (bytes : List ℕ) where
  pub filling-start : Filling st₀ ls₀ last size bytes st₀ ls₀ last size 0
  filling-start = record { past = omega arith; count = omega arith; same = refl }

  pub filling_step : (st st' ls ls' : List ℕ) (at at' n i : ℕ) → i < length bytes → Filling st₀ ls₀ last size bytes st ls at n i
      → at' ≡ next_last ls at n → ls' ≡ next_links ls at n → st' ≡ set st (at' * 256 + n % 256) (get_or bytes i 0) → Filling st₀ ls₀ last size bytes st' ls' at' (n + 1) (i + 1)
  filling_step st st' ls ls' at at' n i h f ea el es = record {
    past = omega arith;
    count = omega (arith, f.count);
    same =
        let e : growing st' ls' at' (n + 1) ≡ put (growing st ls at n) (get_or bytes i 0) =
        λ j. growing ((es ∙ ap (λ (x : ℕ). set st (x * 256 + n % 256) (get_or bytes i 0)) ea) j) (el j) (ea j) (n + 1) in
        ap (λ (g : Growing). put_all g (drop (i + 1) bytes)) e ∙ ap (λ (t : List ℕ). put_all (growing st ls at n) t) (sym (drop-step bytes i h)) ∙ f.same;
  }

  pub filling-done : (st ls : List ℕ) (at n i : ℕ) → length bytes ≤ i → Filling st₀ ls₀ last size bytes st ls at n i
      → (st ≡ (put_all (growing st₀ ls₀ last size) bytes).store) × (ls ≡ (put_all (growing st₀ ls₀ last size) bytes).links)
  filling-done st ls at n i h f =
      let e : growing st ls at n ≡ put_all (growing st₀ ls₀ last size) bytes = ap (λ (t : List ℕ). put_all (growing st ls at n) t) (sym (drop-none bytes i h)) ∙ f.same in
      (ap (λ (g : Growing). g.store) e, ap (λ (g : Growing). g.links) e)

-- ---- lengths stay

pub next-long : (ls : List ℕ) (last size : ℕ) → length (next_links ls last size) ≡ length ls
unfolding next_links
next-long ls last size = go (full size)
  where
    go : (b : Bool) → length (cond b (set (set ls last (lowest_portion ls % 65536)) (lowest_portion ls) 65534) ls) ≡ length ls
    go true = length-set (set ls last (lowest_portion ls % 65536)) (lowest_portion ls) 65534 ∙ length-set ls last (lowest_portion ls % 65536)
    go false = refl

pub put_all-store : (l : List ℕ) (g : Growing) → length (put_all g l).store ≡ length g.store
put_all-store [] g = refl
put_all-store (b ∷ l) g = put_all-store l (put g b) ∙ length-set g.store _ b

pub put_all-links : (l : List ℕ) (g : Growing) → length (put_all g l).links ≡ length g.links
put_all-links [] g = refl
put_all-links (b ∷ l) g = put_all-links l (put g b) ∙ next-long g.links g.last g.size

module _ (st₀ ls₀ : List ℕ) (last size : ℕ) (bytes st ls : List ℕ) (at n i : ℕ) (f : Filling st₀ ls₀ last size bytes st ls at n i) where
  pub filling-store : length st ≡ length st₀
  filling-store = sym (put_all-store (drop i bytes) (growing st ls at n)) ∙ ap (λ (g : Growing). length g.store) f.same ∙ put_all-store bytes (growing st₀ ls₀ last size)

  pub filling-links : length ls ≡ length ls₀
  filling-links = sym (put_all-links (drop i bytes) (growing st ls at n)) ∙ ap (λ (g : Growing). length g.links) f.same ∙ put_all-links bytes (growing st₀ ls₀ last size)

-- ---- an entry grown, as the code does it

module _ (st ls dir : List ℕ) (i : ℕ) (bytes : List ℕ) where
  pub grown-is : (st' ls' dir' : List ℕ) (s last : ℕ) → s ≡ size (entry dir i) → last ≡ last_of ls (entry dir i) → st' ≡ (put_all (growing st ls last s) bytes).store
      → ls' ≡ (put_all (growing st ls last s) bytes).links → dir' ≡ with_size dir i (s + length bytes) → memory st' ls' dir' ≡ grown (memory st ls dir) i bytes
  unfolding grown
  grown-is st' ls' dir' s last es el a b c =
      let g : growing st ls last s ≡ growing st ls (last_of ls (entry dir i)) (size (entry dir i)) = λ j. growing st ls (el j) (es j) in
      λ j. memory ((a ∙ ap (λ (x : Growing). (put_all x bytes).store) g) j) ((b ∙ ap (λ (x : Growing). (put_all x bytes).links) g) j) ((c ∙ ap (λ (x : ℕ). with_size dir i (x + length bytes)) es) j)
