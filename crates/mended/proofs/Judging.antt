-- The entries judged one after another: what is known of the verdicts and of the portions in use before each.
use mathlib.Core.Path.{◌≡◌, sym, ap, ◌∙◌}
use mathlib.Core.List.{List}
use mathlib.Core.Bool.{true, cond, false≢true}
use mathlib.Core.Logic.{⊎_elim}
use Prim.Native.Nat.{ℕ, zero, suc, ◌+◌, ◌≤◌, ◌<◌}
use native.Mathlib.Omega.{arith}
use lib.ListN.{length, get_or, length-set}
use lib.Seq.{get_or-set_same, get_or-set_other}
use lib.Dec.{eqb, leb}
use borrow.Author.Tests.{eq-eqb, ne_eqb, leb-true}
use Rattle.cells.specs.Count.{times}
use Rattle.cells.proofs.Cells.{length-zeros, get_or-zeros}
use Rattle.ground.proofs.Tests.{same?, and_right}
use Rattle.store.specs.Chain.{most_portions, needed, chain}
use Rattle.store.specs.Entry.{most_entries, entries, first, size}
use Rattle.memory.specs.Memory.{Memory, entry_of}
use Rattle.store_sound.specs.Sound.{lent_ok, firsts, uses}
use Rattle.store_sound.proofs.Facts.{lent-few}
use Rattle.verdicts.specs.Verdicts.{kept, portions, shared, filled, noted, unjudged, judged}
use Rattle.mended.specs.Fair.{Fair, known_before, said, held}
use Rattle.mended.proofs.Fills.{share, length-filled, filled-out, filled_in, some-meets}
use Rattle.mended.proofs.Tests.{fair-many, held_below, held-once, kept-facts}

pub mark-yes : (x : ℕ) → x ≡ 0 → cond {A = ℕ} (eqb x 0) 0 1 ≡ 0
mark-yes x e = rw (eq-eqb x 0 e)

pub mark-no : (x : ℕ) → (x ≡ 0 → ⊥) → cond {A = ℕ} (eqb x 0) 0 1 ≡ 1
mark-no x n = rw (ne_eqb x 0 n)

pub lent-entries : (st ls dir : List ℕ) → lent_ok st ls dir ≡ true → entries dir ≤ most_entries
unfolding lent_ok
lent-entries st ls dir lent =
    leb-true _ _ (and_right (leb 1 (entries dir)) _ (and_right (eqb (length dir) _) _ (and_right (eqb (length st) _) _ (and_right (leb 1 (length ls)) _ (and_right (leb (length ls) 2024) _ lent)))))

module _ (m : Memory) where
  abbrev ls : List ℕ
  ls = m.links

  -- the size of entry i, and how many of its portions are kept
  abbrev size_of : ℕ → ℕ
  size_of i = size (entry_of m i)

  abbrev pub keeps : ℕ → ℕ
  keeps i = cond (eqb (said m i) kept) (needed (size_of i)) 0

  pub keeps-kept : (i : ℕ) → said m i ≡ kept → keeps i ≡ needed (size_of i)
  keeps-kept i y = rw (eq-eqb (said m i) 1 y)

  pub keeps-none : (i : ℕ) → (said m i ≡ kept → ⊥) → keeps i ≡ 0
  keeps-none i n = rw (ne_eqb (said m i) 1 n)

  -- ---- verdicts

  long-verdicts : (n : ℕ) → length (known_before m n).verdicts ≡ most_entries
  unfolding judged unjudged noted
  long-verdicts zero = length-zeros most_entries
  long-verdicts (suc n) = length-set (known_before m n).verdicts n (said m n) ∙ long-verdicts n

  pub verdict-at : (n j : ℕ) → j < n → n ≤ most_entries → get_or (known_before m n).verdicts j 0 ≡ said m j
  unfolding judged noted
  verdict-at zero j b h = absurd (omega arith)
  verdict-at (suc n) j b h = ⊎_elim
      (λ (e : j ≡ n). rw e (get_or-set_same (known_before m n).verdicts n (said m n) 0 (omega (arith, long-verdicts n))))
      (λ (ne : j ≡ n → ⊥). get_or-set_other (known_before m n).verdicts n j (said m n) 0 ne ∙ verdict-at n j (omega arith) (omega arith))
      (same? j n)

  -- ---- fills

  fills-kept : (n : ℕ) → said m n ≡ kept
      → (known_before m (suc n)).fills ≡ filled (known_before m n).fills (chain ls (first (entry_of m n)) (portions ls (entry_of m n))) (size_of n)
  unfolding judged noted
  fills-kept n y = rw (eq-eqb (said m n) 1 y)

  fills-dropped : (n : ℕ) → (said m n ≡ kept → ⊥) → (known_before m (suc n)).fills ≡ (known_before m n).fills
  unfolding judged noted
  fills-dropped n d = rw (ne_eqb (said m n) 1 d)

  -- each portion's number says whether a kept entry has it, and how many of its bytes lie there
  pub record Noted (n : ℕ) : Type 0 where
    pub long : length (known_before m n).fills ≡ most_portions
    pub marks : (q : ℕ) → q < length ls → uses ls (firsts m.directory) keeps q n ≡ cond (eqb (get_or (known_before m n).fills q 0) 0) 0 1
    pub parts : (j : ℕ) → j < n → said m j ≡ kept → (q : ℕ) → 0 < times q (held m j) → get_or (known_before m n).fills q 0 ≡ 1 + share (held m j) (size_of j) q

  pub fair : (i : ℕ) → said m i ≡ kept → Fair m i
  fair i y = (kept-facts m (known_before m i) i y).0

  module _ (lent : lent_ok m.store m.links m.directory ≡ true) where
    few : length ls ≤ most_portions
    few = lent-few m.store ls m.directory lent

    -- no portion of a kept entry was noted before
    free-before : (i : ℕ) → said m i ≡ kept → (q : ℕ) → 0 < times q (held m i) → get_or (known_before m i).fills q 0 ≡ 0
    unfolding shared
    free-before i y q h = ⊎_elim
        (λ (z : get_or (known_before m i).fills q 0 ≡ 0). z)
        (λ (n : get_or (known_before m i).fills q 0 ≡ 0 → ⊥).
        let a = rw (fair-many m i (fair i y) lent) at (kept-facts m (known_before m i) i y).1.1 in
        absurd (false≢true (sym a ∙ some-meets (known_before m i).fills (held m i) q h n)))
        (same? (get_or (known_before m i).fills q 0) 0)

    noted_more : (n : ℕ) → n < most_entries → Noted n → Noted (suc n)
    noted_more n b s = ⊎_elim
        (λ (y : said m n ≡ kept).
        let f : (known_before m (suc n)).fills ≡ filled (known_before m n).fills (held m n) (size_of n) =
        fills-kept n y ∙ ap (λ (k : ℕ). filled (known_before m n).fills (chain ls (first (entry_of m n)) k) (size_of n)) (fair-many m n (fair n y) lent) in
        let k : ((q : ℕ) → times q (chain ls (first (entry_of m n)) (keeps n)) ≡ times q (held m n)) = λ q. ap (λ (c : ℕ). times q (chain ls (first (entry_of m n)) c)) (keeps-kept n y) in
        let once = held-once m n (fair n y) lent in
        let here : ((q : ℕ) → 0 < times q (held m n) → get_or (known_before m (suc n)).fills q 0 ≡ 1 + share (held m n) (size_of n) q) =
        λ q i. ap (λ (l : List ℕ). get_or l q 0) f
        ∙ filled_in (known_before m n).fills (held m n) (size_of n) q (omega (arith, few, held_below m n (fair n y) lent q i, s.long)) (omega (arith, once q)) in
        let there : ((q : ℕ) → times q (held m n) ≡ 0 → get_or (known_before m (suc n)).fills q 0 ≡ get_or (known_before m n).fills q 0) =
        λ q z. ap (λ (l : List ℕ). get_or l q 0) f ∙ filled-out (known_before m n).fills (held m n) (size_of n) q z in
        record {
          long = ap length f ∙ length-filled (known_before m n).fills (held m n) (size_of n) ∙ s.long;
          marks = λ q l. ⊎_elim
              (λ (z : times q (held m n) ≡ 0). omega (arith, s.marks q l, k q, ap (λ (x : ℕ). cond {A = ℕ} (eqb x 0) 0 1) (there q z)))
              (λ (z : times q (held m n) ≡ 0 → ⊥).
              omega (arith, s.marks q l, k q, once q, mark-yes (get_or (known_before m n).fills q 0) (free-before n y q (omega arith)), mark-no (get_or (known_before m (suc n)).fills q 0) (λ w. omega (arith, here q (omega arith)))))
              (same? (times q (held m n)) 0);
          parts = λ j bj yj q i. ⊎_elim
              (λ (e : j ≡ n). rw e (here q (rw e at i)))
              (λ (ne : j ≡ n → ⊥).
              let p = s.parts j (omega arith) yj q i in
              let z : times q (held m n) ≡ 0 = ⊎_elim (λ (z : times q (held m n) ≡ 0). z) (λ (w : times q (held m n) ≡ 0 → ⊥). absurd (omega (arith, p, free-before n y q (omega arith)))) (same? (times q (held m n)) 0) in
              there q z ∙ p)
              (same? j n);
        })
        (λ (d : said m n ≡ kept → ⊥).
        let f = fills-dropped n d in
        let k : ((q : ℕ) → times q (chain ls (first (entry_of m n)) (keeps n)) ≡ 0) = λ q. ap (λ (c : ℕ). times q (chain ls (first (entry_of m n)) c)) (keeps-none n d) in
        record {
          long = ap length f ∙ s.long;
          marks = λ q l. omega (arith, s.marks q l, k q, ap (λ (x : List ℕ). cond {A = ℕ} (eqb (get_or x q 0) 0) 0 1) f);
          parts = λ j bj yj q i. ⊎_elim
              (λ (e : j ≡ n). absurd (d (rw e at yj)))
              (λ (ne : j ≡ n → ⊥). ap (λ (x : List ℕ). get_or x q 0) f ∙ s.parts j (omega arith) yj q i)
              (same? j n);
        })
        (same? (said m n) 1)

    pub noted-all : (n : ℕ) → n ≤ most_entries → Noted n
    unfolding judged unjudged
    noted-all zero h = record { long = length-zeros most_portions; marks = λ q l. sym (mark-yes _ (get_or-zeros most_portions q (omega (arith, few)))); parts = λ j b. absurd (omega arith) }
    noted-all (suc n) h = noted_more n (omega arith) (noted-all n (omega arith))
