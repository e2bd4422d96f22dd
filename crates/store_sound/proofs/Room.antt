-- Room for more bytes, byte by byte.
use mathlib.Core.Path.{◌≡◌, sym, ap, ◌∙◌}
use mathlib.Core.List.{List, [], ◌∷◌}
use mathlib.Core.Logic.{⊎_elim}
use Prim.Native.Nat.{ℕ, zero, suc, ◌+◌, ◌-◌, ◌*◌, ◌%◌, ◌≤◌, ◌<◌}
use native.Mathlib.Omega.{arith}
use lib.ListN.{length, get_or, set, length-set}
use lib.Seq.{get_or-set_same, get_or-set_other}
use lib.Dec.{eqb}
use borrow.Author.Tests.{eq-eqb, eqb-true}
use Rattle.cells.specs.Count.{times}
use Rattle.cells.proofs.Counts.{one-yes, one-no, times-some}
use Rattle.cells.proofs.Scan.{lowest-passes, lowest-first}
use Rattle.store.specs.Chain.{needed, is_free}
use Rattle.room.specs.Room.{lowest_portion}
use Rattle.growing.specs.Grow.{next_last, next_links}
use Rattle.growing.proofs.Growth.{next-in, next-first}
use Rattle.growing.proofs.Growth as growth
use Rattle.ground.proofs.Tests.{same?}
use Rattle.ground.specs.Numbers.{one}
use Rattle.store_sound.proofs.Changes.{hung}

-- there is room for so many bytes more
pub record Room (st ls : List ℕ) (last size more : ℕ) : Type 0 where
  pub long : length st ≡ length ls * 256
  pub small : length ls ≤ 2024
  pub inside : last < length ls
  pub held : get_or ls last 0 ≡ 65535 → ⊥
  pub fits : size + more < 4294967296
  pub enough : needed (size + more) ≤ needed size + times 65535 ls

-- ---- the lowest free portion

pub lowest-below : (ls : List ℕ) → 0 < times 65535 ls → lowest_portion ls < length ls
lowest-below ls h =
    let s = times-some 65535 ls h in
    omega (arith, s.1.0, lowest-first (is_free ls) (length ls) s.0 s.1.0 (eq-eqb (get_or ls s.0 0) 65535 s.1.1))

pub lowest-free : (ls : List ℕ) → lowest_portion ls < length ls → get_or ls (lowest_portion ls) 0 ≡ 65535
lowest-free ls h = eqb-true _ _ (lowest-passes (is_free ls) (length ls) h)

-- a link that is small enough is stored as it is
pub next-full : (ls : List ℕ) (last size : ℕ) → length ls ≤ 2024 → last < length ls → size % 256 ≡ 0 → 0 < size
    → (next_last ls last size ≡ lowest_portion ls) × (next_links ls last size ≡ hung ls last (lowest_portion ls))
next-full ls last size small inside e p =
    let f = growth.next-full ls last size e p in
    let z : lowest_portion ls % 65536 ≡ lowest_portion ls = omega (arith, Rattle.cells.proofs.Scan.lowest-most (is_free ls) (length ls)) in
    (f.0, f.1 ∙ ap (λ (x : ℕ). set (set ls last x) (lowest_portion ls) 65534) z)

-- the three cases
pub data Case (size : ℕ) : Type 0 where
  is_full : size % 256 ≡ 0 → 0 < size → Case size
  is_in : (size % 256 ≡ 0 → ⊥) → Case size
  is_first : size ≡ 0 → Case size

pub case : (size : ℕ) → Case size
case size = ⊎_elim
    (λ (e : size % 256 ≡ 0). ⊎_elim (λ (z : size ≡ 0). is_first z) (λ (n : size ≡ 0 → ⊥). is_full e (omega arith)) (same? size 0))
    is_in
    (same? (size % 256) 0)

-- ---- a turn

pub times-set : (q : ℕ) (l : List ℕ) (i v : ℕ) → i < length l → times q (set l i v) + one (eqb (get_or l i 0) q) ≡ times q l + one (eqb v q)
times-set q [] i v h = absurd (omega arith)
times-set q (x ∷ l) zero v h = omega arith
times-set q (x ∷ l) (suc i) v h = omega (arith, times-set q l i v (omega arith))

-- one portion less is free
pub hung-free : (ls : List ℕ) (l q : ℕ) → l < length ls → q < length ls → length ls ≤ 2024 → (get_or ls l 0 ≡ 65535 → ⊥) → get_or ls q 0 ≡ 65535 → times 65535 (hung ls l q) + 1 ≡ times 65535 ls
hung-free ls l q bl bq small held free =
    let ne : q ≡ l → ⊥ = λ e. held (ap (λ (x : ℕ). get_or ls x 0) (sym e) ∙ free) in
    let k : get_or (set ls l q) q 0 ≡ 65535 = get_or-set_other ls l q q 0 ne ∙ free in
    omega (
      arith,
      times-set 65535 ls l q bl,
      times-set 65535 (set ls l q) q 65534 (rw length-set bq),
      one-no (get_or ls l 0) 65535 held,
      one-no q 65535 (λ e. omega arith),
      one-yes (get_or (set ls l q) q 0) 65535 k,
      one-no 65534 65535 (λ e. omega arith),
    )

-- where the portions are full, one is free
pub room-some : (st ls : List ℕ) (last size more : ℕ) → 0 < more → Room st ls last size more → size % 256 ≡ 0 → 0 < size → 0 < times 65535 ls
room-some st ls last size more m r e p = omega (arith, r.enough)

pub room-step : (st ls : List ℕ) (last size more b a : ℕ) → 0 < more → Room st ls last size more
    → Room (set st a b) (next_links ls last size) (next_last ls last size) (size + 1) (more - 1)
room-step st ls last size more b a m r = go (case size)
  where
    go : Case size → Room (set st a b) (next_links ls last size) (next_last ls last size) (size + 1) (more - 1)
    go (is_full e p) =
        let some = room-some st ls last size more m r e p in
        let q = lowest-below ls some in
        let fr = lowest-free ls q in
        let hf = hung-free ls last (lowest_portion ls) r.inside q r.small r.held fr in
        let l₁ = length-set (set ls last (lowest_portion ls)) (lowest_portion ls) 65534 in
        let l₂ = length-set ls last (lowest_portion ls) in
        let l₃ = length-set st a b in
        let new = get_or-set_same (set ls last (lowest_portion ls)) (lowest_portion ls) 65534 0 (rw length-set q) in
        rw ((next-full ls last size r.small r.inside e p).0, (next-full ls last size r.small r.inside e p).1) (record {
          long = omega (arith, r.long);
          small = omega (arith, r.small);
          inside = omega arith;
          held = λ k. omega (arith, sym new ∙ k);
          fits = omega (arith, r.fits);
          enough = omega (arith, r.enough, let h : size + 1 + (more - 1) ≡ size + more = omega arith in h);
        })
    go (is_in n) =
        let l₃ = length-set st a b in
        rw ((next-in ls last size n).0, (next-in ls last size n).1) (record {
          long = omega (arith, r.long);
          small = r.small;
          inside = r.inside;
          held = r.held;
          fits = omega (arith, r.fits);
          enough = omega (arith, r.enough);
        })
    go (is_first z) =
        let l₃ = length-set st a b in
        rw ((next-first ls last size z).0, (next-first ls last size z).1) (record {
          long = omega (arith, r.long);
          small = r.small;
          inside = r.inside;
          held = r.held;
          fits = omega (arith, r.fits);
          enough = omega (arith, r.enough);
        })
