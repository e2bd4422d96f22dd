-- Which earlier entry a name or a portion is shared with, and which entries are kept.
use mathlib.Core.Path.{◌≡◌, refl, sym, ap, ◌∙◌}
use mathlib.Core.List.{List}
use mathlib.Core.Bool.{Bool, true, false, cond, false≢true}
use mathlib.Core.Logic.{⊎_elim}
use Prim.Native.Nat.{ℕ, zero, suc, ◌≤◌, ◌<◌}
use native.Mathlib.Omega.{arith}
use lib.ListN.{length, get_or}
use lib.Dec.{eqb}
use borrow.Author.Tests.{eq-eqb, ne_eqb, eqb-true, eqb-false}
use Rattle.cells.specs.Count.{times, sum_to}
use Rattle.cells.proofs.Scan.{lowest-passes, lowest-first}
use Rattle.ground.proofs.Tests.{same?, is_false, and_left, and_right, and_both}
use Rattle.store.specs.Chain.{chain}
use Rattle.store.specs.Entry.{most_entries, entries, kind, name, first, of_kind}
use Rattle.std.specs.Prelude.{None, Option, Some, is_some}
use Rattle.finding.specs.Find.{found, same_name, titled}
use Rattle.finding.proofs.Finding.{found_at, at-says}
use Rattle.memory.specs.Memory.{Memory, entry_of}
use Rattle.store_sound.specs.Sound.{lent_ok, firsts}
use Rattle.store_sound.proofs.Facts.{own_name, same_names, own-class}
use Rattle.store_sound.proofs.Frame.{chain-below}
use Rattle.verdicts.specs.Verdicts.{kept, is_kept, kept_as, name_kept, portions, wrong_chain, shared}
use Rattle.mended.specs.Fair.{Fair, Apart, EarlierKept, known_before, said, held}
use Rattle.mended.proofs.Chains.{whole-chain}
use Rattle.mended.proofs.Fills.{meets-some, some-meets}
use Rattle.mended.proofs.Tests.{fair-some, fair-low, fair-many, kept-facts, facts-kept}
use Rattle.mended.proofs.Judging.{keeps, keeps-none, keeps-kept, verdict-at, mark-no, lent-entries, fair, noted-all}

-- what is added up to more than 0 has a part that is more
sum-some : (f : ℕ → ℕ) (n : ℕ) → 0 < sum_to f n → (j : ℕ) × ((j < n) × (0 < f j))
sum-some f zero h = absurd (omega arith)
sum-some f (suc n) h = ⊎_elim
    (λ (z : f n ≡ 0). let r = sum-some f n (omega arith) in (r.0, (omega (arith, r.1.0), r.1.1)))
    (λ (s : f n ≡ 0 → ⊥). (n, (omega arith, omega arith)))
    (same? (f n) 0)

-- ---- a search finds something exactly when something passes

pub passes-found : (test : ℕ → Bool) (n j : ℕ) → j < n → test j ≡ true → is_some (found test n) ≡ true
passes-found test n j b t = rw (found_at test n (omega (arith, lowest-first test n j b t)))

found-passes : (test : ℕ → Bool) (n : ℕ) → is_some (found test n) ≡ true → (j : ℕ) × ((j < n) × (test j ≡ true))
found-passes test n h = go (found test n) refl h
  where
    go : (f : Option ℕ) → found test n ≡ f → is_some f ≡ true → (j : ℕ) × ((j < n) × (test j ≡ true))
    go (Some j) e h = let a = at-says test n j e in (j, (a.1, ap test (sym a.0) ∙ lowest-passes test n (omega (arith, a.0, a.1))))
    go None e h = absurd (false≢true h)

-- ---- kinds: of forms that are not being recorded, and of pictures

pub class-kind : (p : Bool) (k : ℕ) → of_kind p k ≡ true → k ≤ 2 → k ≡ cond p 2 1
class-kind true k o h = eqb-true k 2 o
class-kind false zero o h = absurd (false≢true o)
class-kind false (suc zero) o h = refl
class-kind false (suc (suc zero)) o h = absurd (false≢true o)
class-kind false (suc (suc (suc k))) o h = absurd (omega arith)

module _ (m : Memory) (lent : lent_ok m.store m.links m.directory ≡ true) where
  -- a portion in use has a kept entry
  pub owner : (n q : ℕ) → n ≤ most_entries → q < length m.links → (get_or (known_before m n).fills q 0 ≡ 0 → ⊥)
      → (j : ℕ) × (EarlierKept m n j × (0 < times q (held m j)))
  owner n q h b u =
      let r = sum-some (λ (j : ℕ). times q (chain m.links (firsts m.directory j) (keeps m j))) n
      (omega (arith, (noted-all m lent n h).marks q b, mark-no (get_or (known_before m n).fills q 0) u)) in
      ⊎_elim
      (λ (y : said m r.0 ≡ kept). (r.0, ((r.1.0, y), rw (keeps-kept m r.0 y) at r.1.1)))
      (λ (d : said m r.0 ≡ kept → ⊥).
      absurd (omega (arith, r.1.1, ap (λ (k : ℕ). times q (chain m.links (firsts m.directory r.0) k)) (keeps-none m r.0 d))))
      (same? (said m r.0) 1)

  module _ (i : ℕ) (b : i < entries m.directory) where
    abbrev e : List ℕ
    e = entry_of m i

    -- the entries of its kind, where 1 and 3 are one
    abbrev of_its_kind : ℕ → Bool
    of_its_kind k = of_kind (eqb (kind e) 2) k

    few : i ≤ most_entries
    few = omega (arith, lent-entries m.store m.links m.directory lent)

    -- ---- a name already kept

    pub name-from : name_kept m.directory (known_before m i).verdicts i ≡ true
        → (j : ℕ) × (EarlierKept m i j × ((of_its_kind (kind (entry_of m j)) ≡ true) × (name e ≡ name (entry_of m j))))
    unfolding name_kept kept_as titled
    name-from h =
        let r = found-passes (kept_as m.directory (known_before m i).verdicts i) i h in
        let j : ℕ = r.0 in
        let t = r.1.1 in
        let k : get_or (known_before m i).verdicts j 0 ≡ 1 = eqb-true _ 1 (and_left (is_kept (known_before m i).verdicts j) _ t) in
        let w = and_right (is_kept (known_before m i).verdicts j) _ t in (
          j,
          (
            (r.1.0, sym (verdict-at m i j r.1.0 few) ∙ k),
            (and_left _ (same_name (entry_of m j) (name e)) w, sym (same_names (entry_of m j) e (and_right (of_its_kind (kind (entry_of m j))) _ w))),
          ),
        )

    pub from-name : (j : ℕ) → EarlierKept m i j → of_its_kind (kind (entry_of m j)) ≡ true → name e ≡ name (entry_of m j)
        → name_kept m.directory (known_before m i).verdicts i ≡ true
    unfolding name_kept kept_as titled
    from-name j k o n = passes-found (kept_as m.directory (known_before m i).verdicts i) i j k.0
        (and_both _ _ (eq-eqb _ 1 (verdict-at m i j k.0 few ∙ k.1)) (and_both _ _ o (rw n (own_name (entry_of m j)))))

    -- ---- a portion already kept

    -- the portions that the walk from its first one meets
    abbrev met : List ℕ
    met = chain m.links (first e) (portions m.links e)

    pub portion-from : wrong_chain m.links e ≡ false → shared m.links (known_before m i).fills e ≡ true
        → (j : ℕ) × (EarlierKept m i j × ((q : ℕ) × ((0 < times q met) × (0 < times q (held m j)))))
    unfolding shared
    portion-from c h =
        let r = meets-some (known_before m i).fills met h in
        let below = chain-below m.links (first e) (portions m.links e) (whole-chain m.links (first e) (eqb-false _ 0 c)) in
        let o = owner i r.0 few (below r.0 r.1.0) r.1.1 in
        (o.0, (o.1.0, (r.0, (r.1.0, o.1.1))))

    pub from-portion : (j : ℕ) → EarlierKept m i j → (q : ℕ) → 0 < times q met → 0 < times q (held m j) → shared m.links (known_before m i).fills e ≡ true
    unfolding shared
    from-portion j k q h l = some-meets (known_before m i).fills met q h (λ z. omega (arith, (noted-all m lent i few).parts j k.0 k.1 q l))

    -- ---- kept

    pub kept-apart : said m i ≡ kept → Apart m i
    kept-apart y =
        let f = fair m i y in
        let a = (kept-facts m (known_before m i) i y).1 in
        record {
          portions = λ j k q h l. false≢true (sym a.1 ∙ from-portion j k q (rw (fair-many m i f lent) h) l);
          names = λ j k s n. false≢true (sym a.0 ∙ from-name j k (ap of_its_kind (sym s) ∙ own-class (kind e) (omega (arith, fair-low m i f)) (fair-some m i f)) n);
        }

    pub apart-kept : Fair m i → Apart m i → said m i ≡ kept
    apart-kept f a =
        let many = fair-many m i f lent in
        let mine = class-kind (eqb (kind e) 2) (kind e) (own-class (kind e) (omega (arith, fair-low m i f)) (fair-some m i f)) (fair-low m i f) in
        facts-kept m (known_before m i) i lent f (
          is_false _ (λ t.
              let r = name-from t in
              let k = r.1.0 in
              let its = class-kind (eqb (kind e) 2) (kind (entry_of m r.0)) r.1.1.0 (fair-low m r.0 (fair m r.0 k.1)) in
              a.names r.0 k (omega (arith, mine, its)) r.1.1.1),
          is_false _ (λ t.
              let r = portion-from (ne_eqb (portions m.links e) 0 (λ z. omega (arith, many))) t in
              let s = r.1.1 in
              a.portions r.0 r.1.0 s.0 (omega (arith, s.1.0, ap (λ (n : ℕ). times s.0 (chain m.links (first e) n)) many)) s.1.1),
        )
