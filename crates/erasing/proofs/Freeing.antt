-- Freeing and erasing, as the code does it.
use mathlib.Core.Path.{◌≡◌, refl, sym, ap, ◌∙◌}
use mathlib.Core.List.{List}
use mathlib.Core.Bool.{Bool, true, false, not, cond}
use Prim.Native.Nat.{ℕ, zero, suc, ◌+◌, ◌-◌, ◌*◌, ◌≤◌, ◌<◌, min}
use native.Mathlib.Omega.{arith}
use native.Mathlib.Numerals.{sub-one, add-one}
use native.Mathlib.Nat.{add-zero}
use lib.ListN.{length, get_or, set, length-set}
use lib.Seq.{sets, length-sets}
use lib.Dec.{eqb}
use borrow.Author.Tests.{eq-eqb, ne_eqb}
use Rattle.cells.specs.Cell.{zeros, set_cell}
use Rattle.store.specs.Entry.{kind, first, many, of_kind}
use Rattle.memory.specs.Memory.{Memory, memory, entry_of}
use Rattle.erasing.specs.Erase.{freed_one, freed, emptied, erased, erased_at, erased_if, erased_from}

-- ---- lengths stay

pub record SameLengths (m m' : Memory) : Type 0 where
  pub store : length m'.store ≡ length m.store
  pub links : length m'.links ≡ length m.links
  pub directory : length m'.directory ≡ length m.directory

pub freed-long : (n : ℕ) (m : Memory) (p : ℕ) → SameLengths m (freed m p n)
unfolding freed
freed-long zero m p = record { store = refl; links = refl; directory = refl }
freed-long (suc n) m p =
    let i = freed-long n (freed_one m p) (get_or m.links p 0) in
    record {
      store = i.store ∙ length-sets m.store (p * 256) (zeros 256);
      links = i.links ∙ length-set m.links p 65535;
      directory = i.directory;
    }

pub erased-long : (m : Memory) (i : ℕ) → SameLengths m (erased m i)
unfolding erased
erased-long m i =
    let n : ℕ = min (many (entry_of m i)) (length m.links) in
    let f = freed-long n m (first (entry_of m i)) in
    record {
      store = f.store;
      links = f.links;
      directory = length-sets (freed m (first (entry_of m i)) n).directory (i * 16) (zeros 16) ∙ f.directory;
    }

pub erased_if-long : (picture : Bool) (m : Memory) (i : ℕ) → SameLengths m (erased_if picture m i)
erased_if-long picture m i = go (of_kind picture (kind (entry_of m i)))
  where
    go : (b : Bool) → SameLengths m (cond b (erased m i) m)
    go true = erased-long m i
    go false = record { store = refl; links = refl; directory = refl }

pub erased_from-long : (picture : Bool) (left : ℕ) (m : Memory) (i : ℕ) → SameLengths m (erased_from picture m i left)
unfolding erased_from
erased_from-long picture zero m i = record { store = refl; links = refl; directory = refl }
erased_from-long picture (suc n) m i =
    let a = erased_if-long picture m i in
    let b = erased_from-long picture n (erased_if picture m i) (suc i) in
    record { store = b.store ∙ a.store; links = b.links ∙ a.links; directory = b.directory ∙ a.directory }

-- the directory is left alone
pub freed-directory : (n : ℕ) (m : Memory) (p : ℕ) → (freed m p n).directory ≡ m.directory
unfolding freed
freed-directory zero m p = refl
freed-directory (suc n) m p = freed-directory n (freed_one m p) (get_or m.links p 0)

-- ---- a chain freed, portion by portion

pub record Freeing (m₀ : Memory) (first n : ℕ) (st ls : List ℕ) (p k : ℕ) : Type 0 where
  pub same : freed (memory st ls m₀.directory) p k ≡ freed m₀ first n

module _ (m₀ : Memory) (first n : ℕ) where
  pub freeing-start : Freeing m₀ first n m₀.store m₀.links first n
  freeing-start = record { same = refl }

  freed-step : (m : Memory) (p k : ℕ) → 0 < k → freed (freed_one m p) (get_or m.links p 0) (k - 1) ≡ freed m p k
  unfolding freed
  freed-step m p zero h = absurd (omega arith)
  freed-step m p (suc k) h = rw sub-one

  pub freeing_step : (st ls st' ls' : List ℕ) (p k p' : ℕ) → 0 < k → Freeing m₀ first n st ls p k → st' ≡ set_cell 256 st p (zeros 256) → p' ≡ get_or ls p 0 → ls' ≡ set ls p 65535
      → Freeing m₀ first n st' ls' p' (k - 1)
  freeing_step st ls st' ls' p k p' h f es ep el = record {
    same = (λ j. freed (memory (es j) (el j) m₀.directory) (ep j) (k - 1)) ∙ freed-step (memory st ls m₀.directory) p k h ∙ f.same;
  }

  pub freeing-done : (st ls : List ℕ) (p k : ℕ) → k ≤ 0 → Freeing m₀ first n st ls p k → memory st ls m₀.directory ≡ freed m₀ first n
  unfolding freed
  freeing-done st ls p zero h f = f.same
  freeing-done st ls p (suc k) h f = absurd (omega arith)

  module _ (st ls : List ℕ) (p k : ℕ) (f : Freeing m₀ first n st ls p k) where
    pub freeing-store : length st ≡ length m₀.store
    freeing-store = sym (freed-long k (memory st ls m₀.directory) p).store ∙ ap (λ (m : Memory). length m.store) f.same ∙ (freed-long n m₀ first).store

    pub freeing-links : length ls ≡ length m₀.links
    freeing-links = sym (freed-long k (memory st ls m₀.directory) p).links ∙ ap (λ (m : Memory). length m.links) f.same ∙ (freed-long n m₀ first).links

-- ---- an entry erased

module _ (m : Memory) (i : ℕ) where
  pub erased-is : (p n : ℕ) (m₁ : Memory) (dir' : List ℕ) → p ≡ first (entry_of m i) → n ≡ min (many (entry_of m i)) (length m.links) → m₁ ≡ freed m p n
      → dir' ≡ sets m₁.directory (i * 16 + 0) (zeros 16) → memory m₁.store m₁.links dir' ≡ erased m i
  unfolding erased
  erased-is p n m₁ dir' ep en e₁ ed =
      let e : m₁ ≡ freed m (first (entry_of m i)) (min (many (entry_of m i)) (length m.links)) = e₁ ∙ (λ j. freed m (ep j) (en j)) in
      ap (λ (d : List ℕ). memory m₁.store m₁.links d) (ed ∙ ap (λ (a : ℕ). sets m₁.directory a (zeros 16)) (add-zero (i * 16)))
      ∙ ap (λ (x : Memory). emptied x i) e

  module _ (k : ℕ) (e : k ≡ kind (entry_of m i)) where
    pub erase-no : k ≡ 0 → (false ≡ not (eqb (kind (entry_of m i)) 0)) × (m ≡ erased_at m i)
    erase-no z =
        let f : eqb (kind (entry_of m i)) 0 ≡ true = eq-eqb (kind (entry_of m i)) 0 (sym e ∙ z) in
        (sym (ap not f), sym (ap (λ (b : Bool). cond b m (erased m i)) f))

    pub erase-yes : (m' : Memory) → (k ≡ 0 → ⊥) → m' ≡ erased m i → (true ≡ not (eqb (kind (entry_of m i)) 0)) × (m' ≡ erased_at m i)
    erase-yes m' z q =
        let f : eqb (kind (entry_of m i)) 0 ≡ false = ne_eqb (kind (entry_of m i)) 0 (λ y. z (e ∙ y)) in
        (sym (ap not f), q ∙ sym (ap (λ (b : Bool). cond b m (erased m i)) f))

    pub erase-if : (picture r b : Bool) (m' : Memory) → r ≡ of_kind picture k → r ≡ b → m' ≡ cond b (erased m i) m → m' ≡ erased_if picture m i
    erase-if picture r b m' er eb q = q ∙ ap (λ (b : Bool). cond b (erased m i) m) (sym eb ∙ er ∙ ap (of_kind picture) e)

-- ---- all of a kind

pub record Erasing (picture : Bool) (m₀ : Memory) (n : ℕ) (m : Memory) (i : ℕ) : Type 0 where
  pub few : i ≤ n
  pub same : erased_from picture m i (n - i) ≡ erased_from picture m₀ 0 n

module _ (picture : Bool) (m₀ : Memory) (n : ℕ) where
  pub erasing-start : Erasing picture m₀ n m₀ 0
  erasing-start = record { few = omega arith; same = ap (erased_from picture m₀ 0) (let z : n - 0 ≡ n = omega arith in z) }

  erasing-one : (m : Memory) (i k : ℕ) → 0 < k → erased_from picture (erased_if picture m i) (i + 1) (k - 1) ≡ erased_from picture m i k
  unfolding erased_from
  erasing-one m i zero h = absurd (omega arith)
  erasing-one m i (suc k) h = rw (sub-one, add-one i)

  pub erasing-step : (m m' : Memory) (i : ℕ) → i < n → Erasing picture m₀ n m i → m' ≡ erased_if picture m i → Erasing picture m₀ n m' (i + 1)
  erasing-step m m' i h e q = record {
    few = omega arith;
    same = (λ j. erased_from picture (q j) (i + 1) ((let z : n - (i + 1) ≡ n - i - 1 = omega arith in z) j)) ∙ erasing-one m i (n - i) (omega arith) ∙ e.same;
  }

  pub erasing-done : (m : Memory) (i : ℕ) → n ≤ i → Erasing picture m₀ n m i → m ≡ erased_from picture m₀ 0 n
  unfolding erased_from
  erasing-done m i h e = ap (erased_from picture m i) (let z : 0 ≡ n - i = omega arith in z) ∙ e.same

  pub erasing-long : (m : Memory) (i : ℕ) → Erasing picture m₀ n m i → SameLengths m₀ m
  erasing-long m i e =
      let a = erased_from-long picture (n - i) m i in
      let b = erased_from-long picture n m₀ 0 in
      record {
        store = sym a.store ∙ ap (λ (x : Memory). length x.store) e.same ∙ b.store;
        links = sym a.links ∙ ap (λ (x : Memory). length x.links) e.same ∙ b.links;
        directory = sym a.directory ∙ ap (λ (x : Memory). length x.directory) e.same ∙ b.directory;
      }
