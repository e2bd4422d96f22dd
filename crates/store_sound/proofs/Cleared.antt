-- Cleared memory is sound, and nothing stands on its shelf.
use mathlib.Core.Path.{◌≡◌, sym, ap, ◌∙◌, subst}
use mathlib.Core.List.{List}
use mathlib.Core.Bool.{Bool, true, false, false≢true}
use Prim.Native.Nat.{ℕ, ◌+◌, ◌*◌, ◌/◌, ◌≤◌, ◌<◌}
use native.Mathlib.Omega.{arith}
use lib.ListN.{length, get_or}
use lib.Seq.{drop-nil}
use Rattle.cells.specs.Cell.{cell, zeros}
use Rattle.cells.specs.Count.{times, sum_to, all_zero}
use Rattle.cells.proofs.Counts.{sum-none}
use Rattle.cells.proofs.Cells.{length-zeros, get_or-zeros, cell-fits, length-cell, cell_at}
use Rattle.store.specs.Chain.{chain}
use Rattle.store.specs.Entry.{entries, entry, kind, many, of_kind}
use Rattle.memory.specs.Memory.{memory}
use Rattle.clearing.specs.Clear.{cleared}
use Rattle.store_sound.specs.Sound.{firsts, counts, store_sound, lent_ok}
use Rattle.store_sound.specs.Shelf.{nothing, held_of, shelf_of}
use Rattle.store_sound.proofs.Facts.{SoundAt, facts-sound, sizes_of, lent-store, lent_same}
use lib.ListN.{replicate, length-replicate, get_or-replicate}
use lib.Seq.{ext_get_or}
use Rattle.store_sound.proofs.Erase.{all_zero-zeros, zeros-kind, zeros-many, zeros-held}
use Rattle.store_sound.proofs.Listing.{shelf-at}

-- a cell of zeros is zeros
zero-cell : (w n i : ℕ) → i * w + w ≤ n → cell w (zeros n) i ≡ zeros w
zero-cell w n i h =
    let l : i * w + w ≤ length (zeros n) = rw (length-zeros n) h in
    ext_get_or 0 (cell w (zeros n) i) (zeros w) (length-cell w (zeros n) i l ∙ sym (length-zeros w))
    (λ o b.
    let bo : o < w = omega (arith, length-cell w (zeros n) i l) in
    cell_at w (zeros n) i o bo ∙ get_or-zeros n (i * w + o) (omega arith) ∙ sym (get_or-zeros w o bo))

no-class : (p : Bool) → of_kind p 0 ≡ true → ⊥
no-class true o = false≢true o
no-class false o = false≢true o

module _ (st ls dir : List ℕ) (lent : lent_ok st ls dir ≡ true) where
  abbrev E : ℕ
  E = entries dir

  abbrev st₀ : List ℕ
  st₀ = zeros (length st)

  abbrev ls₀ : List ℕ
  ls₀ = replicate (length ls) 65535

  abbrev dir₀ : List ℕ
  dir₀ = zeros (length dir)

  blank : (i : ℕ) → i < E → entry dir₀ i ≡ zeros 16
  blank i b = zero-cell 16 (length dir) i (omega arith)

  none : (i : ℕ) → i < E → counts dir₀ i ≡ 0
  none i b = ap many (blank i b) ∙ zeros-many

  empty : (i : ℕ) → i < E → kind (entry dir₀ i) ≡ 0
  empty i b = ap kind (blank i b) ∙ zeros-kind

  unused : (q : ℕ) → sum_to (λ (i : ℕ). times q (chain ls₀ (firsts dir₀ i) (counts dir₀ i))) E ≡ 0
  unused q = sum-none _ E (λ i b. ap (λ (n : ℕ). times q (chain ls₀ (firsts dir₀ i) n)) (none i b))

  long : length ls₀ ≡ length ls
  long = length-replicate (length ls) 65535

  pub cleared-sound : store_sound (cleared (memory st ls dir)).store (cleared (memory st ls dir)).links (cleared (memory st ls dir)).directory ≡ true
  cleared-sound = facts-sound st₀ ls₀ dir₀ (subst (λ (n : ℕ). SoundAt st₀ ls₀ dir₀ n) (sym (ap (λ (n : ℕ). n / 16) (length-zeros (length dir)))) (record {
    lent = lent_same st ls dir st₀ ls₀ dir₀ (length-zeros (length st)) long (length-zeros (length dir)) ∙ lent;
    kinds = λ i b. omega (arith, empty i b);
    names = λ i b n. absurd (n (empty i b));
    unique = λ p i j bi bj oi. absurd (no-class p (rw (empty i bi) at oi));
    single = λ i j bi bj ei. absurd (omega (arith, empty i bi));
    empty = λ i b e. rw (blank i b) (all_zero-zeros 16);
    links = record {
      chained = λ i b n. absurd (n (none i b));
      free = λ q b k. unused q;
      taken = λ q b n. absurd (n (get_or-replicate (length ls) q 65535 0 (omega (arith, long))));
    };
    bytes = record {
      blank = λ q b k. rw (zero-cell 256 (length st) q (omega (arith, cell-fits 256 q (length ls) (omega (arith, long)), lent-store st ls dir lent))) (all_zero-zeros 256);
      tailed = λ i b. rw (none i b) (ap all_zero (drop-nil (sizes_of dir₀ i)));
    };
  }))

  pub cleared-shelf : (i : ℕ) → i < entries dir → get_or (shelf_of (cleared (memory st ls dir))) i nothing ≡ nothing
  cleared-shelf i b =
      shelf-at st₀ ls₀ dir₀ i (subst (λ (n : ℕ). i < n / 16) (sym (length-zeros (length dir))) b) ∙ ap (held_of st₀ ls₀) (blank i b) ∙ zeros-held st₀ ls₀
