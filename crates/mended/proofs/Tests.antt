-- A verdict of `kept`, taken apart into its tests, and these into facts.
use mathlib.Core.Path.{◌≡◌, refl, ap}
use mathlib.Core.List.{List}
use mathlib.Core.Bool.{true, false, not}
use mathlib.Core.Logic.{◌⊎◌, inl, inr, ◌↔◌, ⊎_elim}
use Prim.Native.Nat.{ℕ, zero, suc, ◌*◌, ◌≤◌, ◌<◌}
use native.Mathlib.Omega.{arith}
use lib.ListN.{length, take, length-take}
use lib.Dec.{eqb}
use borrow.Author.Tests.{eq-eqb, ne_eqb, eqb-true, eqb-false, leb-true, le-leb, le-ltb, not-false}
use Rattle.cells.specs.Count.{times}
use Rattle.ground.proofs.Tests.{same?}
use Rattle.store.specs.Chain.{most_portions, needed, bytes_of}
use Rattle.store.specs.Entry.{kind, first, size}
use Rattle.contents.specs.Content.{content_of}
use Rattle.finding.specs.Find.{is_empty, is_recording}
use Rattle.memory.specs.Memory.{Memory, entry_of}
use Rattle.store_sound.specs.Sound.{named_ok, kind_ok, lent_ok}
use Rattle.store_sound.proofs.Bytes.{bytes-length}
use Rattle.store_sound.proofs.Content.{content-chain}
use Rattle.store_sound.proofs.Facts.{lent-few, lent-store}
use Rattle.store_sound.proofs.Frame.{chain-below}
use Rattle.store_sound.proofs.PutSound.{chain_length}
use Rattle.pcx.specs.Rules.{legal}
use Rattle.pcx.proofs.Rules.{legal-says}
use Rattle.content_check.specs.Contents.{most_picture, content_ok}
use Rattle.verdicts.specs.Verdicts.{Known, kept, name_kept, wrong_name, portions, wrong_chain, wrong_size, shared, wrong_content, verdict}
use Rattle.mended.specs.Fair.{Fair, held}
use Rattle.mended.proofs.Chains.{whole-chain, chain-whole, chain-most, chain-once}
use Rattle.mended.proofs.Reasons.{later, or-none}

-- ---- an entry that meets the rules by itself

pub form-or-picture : (k : ℕ) → (k ≡ 0 → ⊥) → (k ≡ 3 → ⊥) → k ≤ 3 → (k ≡ 1) ⊎ (k ≡ 2)
form-or-picture zero a b h = absurd (a refl)
form-or-picture (suc zero) a b h = inl refl
form-or-picture (suc (suc zero)) a b h = inr refl
form-or-picture (suc (suc (suc zero))) a b h = absurd (b refl)
form-or-picture (suc (suc (suc (suc k)))) a b h = absurd (omega arith)

module _ (m : Memory) (i : ℕ) (f : Fair m i) where
  pub fair-some : kind (entry_of m i) ≡ 0 → ⊥
  fair-some z = ⊎_elim (λ (k : kind (entry_of m i) ≡ 1). omega arith) (λ (k : kind (entry_of m i) ≡ 2). omega arith) f.form_or_picture

  pub fair-low : kind (entry_of m i) ≤ 2
  fair-low = ⊎_elim (λ (k : kind (entry_of m i) ≡ 1). omega arith) (λ (k : kind (entry_of m i) ≡ 2). omega arith) f.form_or_picture

  module _ (lent : lent_ok m.store m.links m.directory ≡ true) where
    abbrev ls : List ℕ
    ls = m.links

    abbrev e : List ℕ
    e = entry_of m i

    few : length ls ≤ most_portions
    few = lent-few m.store ls m.directory lent

    long : length m.store ≡ length ls * 256
    long = lent-store m.store ls m.directory lent

    pub fair-many : portions ls e ≡ needed (size e)
    fair-many = chain-whole ls few (first e) (needed (size e)) (omega arith) f.chained

    pub held_below : (q : ℕ) → 0 < times q (held m i) → q < length ls
    held_below = chain-below ls (first e) (needed (size e)) f.chained

    pub held-once : (q : ℕ) → times q (held m i) ≤ 1
    held-once = chain-once ls few (first e) (needed (size e)) f.chained

    -- its content is its chain's bytes, cut at the size
    pub fair-content : content_of m.store ls e ≡ take (size e) (bytes_of m.store (held m i))
    fair-content = content-chain m.store ls e (needed (size e)) long held_below (chain-most ls few (first e) (needed (size e)) f.chained) (omega arith)

    -- a legal picture is not above 32,768 bytes, and all bytes of its size are read
    fair-short : kind e ≡ 2 → size e ≤ most_picture
    unfolding content_ok
    fair-short k =
        let l : legal (content_of m.store ls e) ≡ true = rw k at f.content in
        omega (
          arith,
          (legal-says (content_of m.store ls e) l).header.long,
          ap length fair-content,
          length-take (size e) (bytes_of m.store (held m i)),
          bytes-length (length ls) m.store (held m i) long held_below,
          chain_length ls (first e) (needed (size e)),
        )

    fair-size : wrong_size ls e ≡ false
    unfolding wrong_size
    fair-size = rw (eq-eqb (portions ls e) (needed (size e)) fair-many) (⊎_elim
        (λ (k : kind e ≡ 2). rw (eq-eqb (kind e) 2 k) (le-ltb most_picture (size e) (fair-short k)))
        (λ (k : kind e ≡ 2 → ⊥). rw (ne_eqb (kind e) 2 k))
        (same? (kind e) 2))

-- ---- the verdict

module _ (m : Memory) (k : Known) (i : ℕ) where
  abbrev alone : Type 0
  alone = (name_kept m.directory k.verdicts i ≡ false) × (shared m.links k.fills (entry_of m i) ≡ false)

  no-reason : (verdict m k i ≡ kept) ↔ ((is_empty m.directory i ≡ false) × ((wrong_name m.directory k.verdicts i ≡ false)
      × ((wrong_chain m.links (entry_of m i) ≡ false) × ((wrong_size m.links (entry_of m i) ≡ false)
      × ((shared m.links k.fills (entry_of m i) ≡ false) × ((wrong_content m i ≡ false) × (kept ≡ kept)))))))
  unfolding verdict
  no-reason =
      later _ (λ z. omega arith) (later _ (λ z. omega arith) (later _ (λ z. omega arith) (later _ (λ z. omega arith) (later _ (λ z. omega arith)
      (later _ (λ z. omega arith) (λ e. e, λ e. e))))))

  pub kept-facts : verdict m k i ≡ kept → Fair m i × alone
  unfolding wrong_name wrong_size wrong_content
  kept-facts v =
      let e : List ℕ = entry_of m i in
      let t = no-reason.0 v in
      let n₁ = or-none (not (kind_ok m.directory i)) _ t.1.0 in
      let n₂ = or-none (not (named_ok m.directory i)) _ n₁.1 in
      let z₁ = or-none (not (eqb (portions m.links e) (needed (size e)))) _ t.1.1.1.0 in
      let c₁ = or-none (is_recording m.directory i) _ t.1.1.1.1.1.0 in
      let some : kind e ≡ 0 → ⊥ = eqb-false _ _ t.0 in
      let done : kind e ≡ 3 → ⊥ = eqb-false _ _ c₁.0 in
      let low : kind e ≤ 3 = leb-true _ _ (not-false _ n₁.0) in
      let many : portions m.links e ≡ needed (size e) = eqb-true _ _ (not-false _ z₁.0) in (
        record {
          form_or_picture = form-or-picture (kind e) some done low;
          named = rw (ne_eqb (kind e) 0 some) at (not-false (named_ok m.directory i) n₂.0);
          chained = rw many at (whole-chain m.links (first e) (eqb-false _ _ t.1.1.0));
          content = not-false _ c₁.1;
        },
        (n₂.1, t.1.1.1.1.0),
      )

  pub facts-kept : lent_ok m.store m.links m.directory ≡ true → Fair m i → alone → verdict m k i ≡ kept
  unfolding wrong_name wrong_content
  facts-kept lent f a =
      let some = ne_eqb (kind (entry_of m i)) 0 (fair-some m i f) in no-reason.1 (
        some,
        (
          rw (le-leb (kind (entry_of m i)) 3 (omega (arith, fair-low m i f)), some, f.named, a.0),
          (
            ne_eqb (portions m.links (entry_of m i)) 0 (λ z. omega (arith, fair-many m i f lent)),
            (
              fair-size m i f lent,
              (
                a.1,
                (rw (ne_eqb (kind (entry_of m i)) 3 (λ z. omega (arith, fair-low m i f)), f.content), refl),
              ),
            ),
          ),
        ),
      )
