-- A list written anew from its front, one number or one part at a time: behind the place that was reached all is as it was.
-- Assumes nothing.
use mathlib.Core.Path.{◌≡◌, refl, sym, ap, ◌∙◌}
use mathlib.Core.List.{List}
use mathlib.Core.Bool.{Bool, true, false, cond}
use mathlib.Core.Logic.{⊎_elim}
use Prim.Native.Nat.{ℕ, ◌+◌, ◌-◌, ◌*◌, ◌/◌, ◌%◌, ◌≤◌, ◌<◌}
use native.Mathlib.Omega.{arith}
use native.Mathlib.Decide.{dec_lt}
use lib.ListN.{length, get_or, set, replicate, length-set, length-replicate, get_or-replicate}
use lib.Seq.{sets, ext_get_or, get_or-set_same, get_or-set_other, length-sets}
use lib.Dec.{ltb}
use borrow.Author.Tests.{eq-eqb, ne_eqb, lt-ltb, le-ltb}
use Rattle.ground.proofs.Tests.{same?}
use Rattle.cells.proofs.Sets.{sets_below, sets-above, sets-in}
use Rattle.store_sound.specs.Shelf.{list_to}
use Rattle.store_sound.proofs.Listing.{length-list_to, get_or-list_to}
use Rattle.memory.specs.Memory.{memory}
use Rattle.verdicts.specs.Verdicts.{is_kept, known}
use Rattle.mending.specs.Mending.{kept_byte, kept_directory, kept_link, kept_links, kept_content, kept_store, mended_by}

-- l is l₀ with f written over its first k places
pub record Mapped (f : ℕ → ℕ) (l₀ l : List ℕ) (k : ℕ) : Type 0 where
  pub long : length l ≡ length l₀
  pub done : (j : ℕ) → j < k → j < length l₀ → get_or l j 0 ≡ f j
  pub ahead : (j : ℕ) → k ≤ j → get_or l j 0 ≡ get_or l₀ j 0

module _ (f : ℕ → ℕ) (l₀ : List ℕ) where
  pub mapped-start : Mapped f l₀ l₀ 0
  mapped-start = record { long = refl; done = λ j h b. absurd (omega arith); ahead = λ j h. refl }

  pub mapped-step : (l : List ℕ) (k v : ℕ) → k < length l → v ≡ f k → Mapped f l₀ l k → Mapped f l₀ (set l k v) (k + 1)
  mapped-step l k v b e m = record {
    long = length-set l k v ∙ m.long;
    done = λ j h c. ⊎_elim
        (λ (q : j ≡ k). rw q (get_or-set_same l k v 0 b ∙ e))
        (λ (q : j ≡ k → ⊥). get_or-set_other l k j v 0 q ∙ m.done j (omega arith) c)
        (same? j k);
    ahead = λ j h. get_or-set_other l k j v 0 (λ q. omega arith) ∙ m.ahead j (omega arith);
  }

  pub mapped-done : (l : List ℕ) (k : ℕ) → length l ≤ k → Mapped f l₀ l k → l ≡ list_to f (length l₀)
  mapped-done l k h m =
      ext_get_or 0 l (list_to f (length l₀)) (m.long ∙ sym (length-list_to f (length l₀)))
      (λ j b.
      let c : j < length l₀ = omega (arith, m.long) in
      m.done j (omega arith) c ∙ sym (get_or-list_to f (length l₀) j 0 c))

  -- a part of w places, of which the first n stay and the others are zeroed
  module _ (l : List ℕ) (k n w : ℕ) (part : (o : ℕ) → o < w → f (k + o) ≡ cond (ltb o n) (get_or l₀ (k + o) 0) 0) (m : Mapped f l₀ l k) where
    abbrev zeroed : List ℕ
    zeroed = sets l (k + n) (replicate (w - n) 0)

    within : (o : ℕ) → o < w → k + o < length l₀ → get_or zeroed (k + o) 0 ≡ f (k + o)
    within o h b = elim (dec_lt o n) [
      | yes y ↦ sets_below l (k + n) (replicate (w - n) 0) (k + o) (omega arith) ∙ m.ahead (k + o) (omega arith) ∙ sym (part o h ∙ rw (lt-ltb o n y))
      | no y ↦
          let e : k + o ≡ k + n + (o - n) = omega arith in
          let z : get_or zeroed (k + n + (o - n)) 0 ≡ 0 =
          sets-in l (k + n) (replicate (w - n) 0) (o - n) (omega (arith, length-replicate {A = ℕ} (w - n) 0)) (omega (arith, m.long))
          ∙ get_or-replicate (w - n) (o - n) 0 0 (omega arith) in
          ap (λ (j : ℕ). get_or zeroed j 0) e ∙ z ∙ sym (part o h ∙ rw (le-ltb o n (let g : n ≤ o = omega arith in g)))
    ]

    beyond : (j : ℕ) → k + w ≤ j → get_or zeroed j 0 ≡ get_or l j 0
    beyond j h = elim (dec_lt w n) [
      | yes y ↦ let z : w - n ≡ 0 = omega arith in rw z
      | no y ↦ sets-above l (k + n) (replicate (w - n) 0) j (omega (arith, length-replicate {A = ℕ} (w - n) 0))
    ]

    mapped-zeroed : (k' : ℕ) → k' ≡ k + w → Mapped f l₀ zeroed k'
    mapped-zeroed k' e = record {
      long = length-sets l (k + n) (replicate (w - n) 0) ∙ m.long;
      done = λ j h b. elim (dec_lt j k) [
        | yes y ↦ sets_below l (k + n) (replicate (w - n) 0) j (omega arith) ∙ m.done j y b
        | no y ↦ let p : k + (j - k) ≡ j = omega arith in rw p at (within (j - k) (omega arith) (omega arith))
      ];
      ahead = λ j h. beyond j (omega arith) ∙ m.ahead j (omega arith);
    }

    pub mapped-part : (l' : List ℕ) (k' : ℕ) → l' ≡ zeroed → k' ≡ k + w → Mapped f l₀ l' k'
    mapped-part l' k' z e = rw z (mapped-zeroed k' e)

-- ---- what is written, number by number and part by part

pub link-same : (l l₀ xs : List ℕ) (k : ℕ) → get_or l k 0 ≡ get_or l₀ k 0 → kept_link l xs k ≡ kept_link l₀ xs k
unfolding kept_link
link-same l l₀ xs k e = rw e

module _ (l xs : List ℕ) (k v : ℕ) (ev : v ≡ get_or xs k 0) where
  pub link-freed : v ≡ 0 → 65535 ≡ kept_link l xs k
  unfolding kept_link
  link-freed z = rw (eq-eqb (get_or xs k 0) 0 (sym ev ∙ z))

  pub link-kept : (v ≡ 0 → ⊥) → get_or l k 0 ≡ kept_link l xs k
  unfolding kept_link
  link-kept n = rw (ne_eqb (get_or xs k 0) 0 (λ z. n (ev ∙ z)))

pub portion-part : (l fills : List ℕ) (q v n : ℕ) → v ≡ get_or fills q 0 → n ≡ v - 1 → (o : ℕ) → o < 256
    → kept_content l fills (q * 256 + o) ≡ cond (ltb o n) (get_or l (q * 256 + o) 0) 0
unfolding kept_content
portion-part l fills q v n ev en o h =
    let d : (q * 256 + o) / 256 ≡ q = omega arith in
    let r : (q * 256 + o) % 256 ≡ o = omega arith in
    rw (d, r, ← ev, ← en)

pub entry-part : (l vs : List ℕ) (i n : ℕ) → n ≡ cond (is_kept vs i) 16 0 → (o : ℕ) → o < 16
    → kept_byte l vs (i * 16 + o) ≡ cond (ltb o n) (get_or l (i * 16 + o) 0) 0
unfolding kept_byte
entry-part l vs i n en o h =
    let d : (i * 16 + o) / 16 ≡ i = omega arith in
    rw (d, en) (go (is_kept vs i))
  where
    go : (t : Bool) → cond t (get_or l (i * 16 + o) 0) 0 ≡ cond (ltb o (cond t 16 0)) (get_or l (i * 16 + o) 0) 0
    go true = rw (lt-ltb o 16 h)
    go false = rw (le-ltb o 0 (let g : 0 ≤ o = omega arith in g))

pub length-links : (l xs : List ℕ) → length (kept_links l xs) ≡ length l
unfolding kept_links
length-links l xs = length-list_to (kept_link l xs) (length l)

pub mended-is : (st ls dir vs fs st' ls' dir' : List ℕ) → st' ≡ kept_store st fs → ls' ≡ kept_links ls fs → dir' ≡ kept_directory dir vs
    → memory st' ls' dir' ≡ mended_by (known vs fs) (memory st ls dir)
unfolding mended_by
mended-is st ls dir vs fs st' ls' dir' a b c = λ t. memory (a t) (b t) (c t)
