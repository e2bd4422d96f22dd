-- A sound store with nothing being recorded needs no repair: every entry is kept, and store, links and directory stay as they are.
use mathlib.Core.Path.{◌≡◌, refl, sym, ap, ◌∙◌}
use mathlib.Core.List.{List, [], ◌∷◌}
use mathlib.Core.Bool.{Bool, true, false≢true}
use mathlib.Core.Logic.{⊎_elim}
use Prim.Native.Nat.{ℕ, ◌+◌, ◌-◌, ◌*◌, ◌/◌, ◌%◌, ◌<◌}
use native.Mathlib.Omega.{arith}
use lib.ListN.{length, get_or, take, drop}
use lib.Seq.{ext_get_or, take_at, drop_at}
use lib.Dec.{eqb}
use borrow.Author.Tests.{eq-eqb, ne_eqb}
use Rattle.cells.specs.Count.{times}
use Rattle.cells.proofs.Cells.{length-cell, cell_at}
use Rattle.cells.proofs.Counts.{one-yes, one-no, sum_same, all-at}
use Rattle.ground.proofs.Tests.{same?}
use Rattle.store.specs.Chain.{bytes_a_portion, free_link, chain, portion, bytes_of}
use Rattle.store.specs.Entry.{entries, entry, kind, size, of_kind}
use Rattle.std.specs.Prelude.{None, is_some}
use Rattle.finding.specs.Find.{is_recording, recorded}
use Rattle.memory.specs.Memory.{Memory}
use Rattle.store_sound.specs.Sound.{lent_ok, firsts, counts, uses, store_sound}
use Rattle.store_sound.proofs.Linked.{held-apart}
use Rattle.store_sound.proofs.Facts.{Sound, sound-facts, lent-store, lent-whole, own-class, many-some, many-none}
use Rattle.content_check.specs.Contents.{content_ok, contents_ok}
use Rattle.verdicts.specs.Verdicts.{kept}
use Rattle.mended.specs.Fair.{said, held}
use Rattle.mended.proofs.Cuts.{cut, cut_out, cut-zero}
use Rattle.mended.proofs.Tests.{form-or-picture, fair-some, held_below}
use Rattle.mended.proofs.Judging.{keeps, keeps-kept, keeps-none, mark-yes, fair, verdict-at}
use Rattle.mended.proofs.Kept.{passes-found, apart-kept, owner}
use Rattle.mended.proofs.Left as left

-- portions of one length are what their bytes are
bytes-portion : (st st' ps : List ℕ) → ((q : ℕ) → 0 < times q ps → length (portion st q) ≡ bytes_a_portion)
    → ((q : ℕ) → 0 < times q ps → length (portion st' q) ≡ bytes_a_portion)
    → bytes_of st' ps ≡ bytes_of st ps → (q : ℕ) → 0 < times q ps → portion st' q ≡ portion st q
bytes-portion st st' [] l l' e q h = absurd (omega arith)
bytes-portion st st' (p ∷ ps) l l' e q h =
    let i : 0 < times p (p ∷ ps) = omega (arith, one-yes p p refl) in
    ⊎_elim
    (λ (s : p ≡ q). rw (← s) (sym (take_at (portion st' p) (bytes_of st' ps) 256 (l' p i)) ∙ ap (take 256) e ∙ take_at (portion st p) (bytes_of st ps) 256 (l p i)))
    (λ (n : p ≡ q → ⊥). bytes-portion st st' ps (λ r k. l r (omega arith)) (λ r k. l' r (omega arith))
    (sym (drop_at (portion st' p) (bytes_of st' ps) 256 (l' p i)) ∙ ap (drop 256) e ∙ drop_at (portion st p) (bytes_of st ps) 256 (l p i)) q (omega (arith, one-no p q n)))
    (same? p q)

module _ (m : Memory) (sound : store_sound m.store m.links m.directory ≡ true) (contents : contents_ok m.store m.links m.directory ≡ true)
    (quiet : recorded m.directory ≡ None) where
  abbrev st : List ℕ
  st = m.store

  abbrev ls : List ℕ
  ls = m.links

  abbrev dir : List ℕ
  dir = m.directory

  abbrev E : ℕ
  E = entries dir

  s : Sound st ls dir
  s = sound-facts st ls dir sound

  pub lent : lent_ok st ls dir ≡ true
  lent = s.lent

  fit : (i : ℕ) → i < E → content_ok st ls dir i ≡ true
  unfolding contents_ok
  fit i b = all-at (content_ok st ls dir) E contents i b

  finished : (i : ℕ) → i < E → kind (entry dir i) ≡ 3 → ⊥
  finished i b k = false≢true (sym (ap is_some quiet) ∙ passes-found (is_recording dir) E i b (eq-eqb (kind (entry dir i)) 3 k))

  counted : (i : ℕ) → (kind (entry dir i) ≡ 0 → ⊥) → chain ls (firsts dir i) (counts dir i) ≡ held m i
  counted i n = ap (chain ls (firsts dir i)) (many-some st ls dir i n)

  -- every entry is kept
  pub all-kept : (i : ℕ) → i < E → (kind (entry dir i) ≡ 0 → ⊥) → said m i ≡ kept
  all-kept i b n = apart-kept m lent i b
      (record {
        form_or_picture = form-or-picture (kind (entry dir i)) n (finished i b) (s.kinds i b);
        named = s.names i b n;
        chained = rw (many-some st ls dir i n) at (s.links.chained i b (λ z. omega (arith, many-some st ls dir i n)));
        content = fit i b;
      })
      (record {
        portions = λ j k q h l.
            let f = fair-some m j (fair m j k.1) in
            omega (arith, l, rw (counted j f) at (held-apart ls (firsts dir) (counts dir) E s.links j i (omega (arith, k.0)) b (λ e. omega (arith, k.0)) q (rw (counted i n) h)));
        names = λ j k same e.
            let p : Bool = eqb (kind (entry dir i)) 2 in
            let c = own-class (kind (entry dir i)) (s.kinds i b) n in
            omega (arith, k.0, s.unique p i j b (omega (arith, k.0)) c (ap (of_kind p) (sym same) ∙ c) e);
      })

  empty_of : (i : ℕ) → i < E → (said m i ≡ kept → ⊥) → kind (entry dir i) ≡ 0
  empty_of i b d = ⊎_elim (λ (z : kind (entry dir i) ≡ 0). z) (λ (n : kind (entry dir i) ≡ 0 → ⊥). absurd (d (all-kept i b n))) (same? (kind (entry dir i)) 0)

  pub same-directory : left.dir' m lent ≡ dir
  same-directory = ext_get_or 0 (left.dir' m lent) dir (left.long-dir m lent) (λ k h.
      let b : k < length dir = omega (arith, left.long-dir m lent) in
      let l : k / 16 < E = omega (arith, lent-whole st ls dir lent) in
      left.byte_at m lent k b ∙ ⊎_elim
      (λ (y : said m (k / 16) ≡ kept). rw (eq-eqb _ 1 (verdict-at m E (k / 16) l (left.few m lent) ∙ y)))
      (λ (d : said m (k / 16) ≡ kept → ⊥).
      let z = cut-zero 0 (entry dir (k / 16)) (s.empty (k / 16) l (empty_of (k / 16) l d)) in
      let w : k / 16 * 16 + k % 16 ≡ k = omega arith in
      rw (ne_eqb _ 1 (λ e. d (sym (verdict-at m E (k / 16) l (left.few m lent)) ∙ e)))
      (sym (ap (λ (x : ℕ). get_or dir x 0) (sym w) ∙ sym (cell_at 16 dir (k / 16) (k % 16) (omega arith))
      ∙ ap (λ (x : List ℕ). get_or x (k % 16) 0) (sym z) ∙ cut_out 0 (entry dir (k / 16)) (k % 16) (omega arith))))
      (same? (said m (k / 16)) 1))

  all-uses : (q : ℕ) → uses ls (firsts dir) (keeps m) q E ≡ uses ls (firsts dir) (counts dir) q E
  all-uses q = sum_same (λ (i : ℕ). times q (chain ls (firsts dir i) (keeps m i))) (λ (i : ℕ). times q (chain ls (firsts dir i) (counts dir i))) E (λ i b.
      ap (λ (k : ℕ). times q (chain ls (firsts dir i) k)) (⊎_elim
      (λ (y : said m i ≡ kept). keeps-kept m i y ∙ sym (many-some st ls dir i (fair-some m i (fair m i y))))
      (λ (d : said m i ≡ kept → ⊥). keeps-none m i d ∙ sym (many-none st ls dir i (empty_of i b d)))
      (same? (said m i) 1)))

  -- a portion in no kept chain was free
  was_free : (q : ℕ) → q < length ls → get_or (left.fs m lent) q 0 ≡ 0 → get_or ls q 0 ≡ free_link
  was_free q b z = ⊎_elim
      (λ (e : get_or ls q 0 ≡ free_link). e)
      (λ (n : get_or ls q 0 ≡ free_link → ⊥). absurd (omega (arith, s.links.taken q b n, all-uses q, (left.notes m lent).marks q b, mark-yes (get_or (left.fs m lent) q 0) z)))
      (same? (get_or ls q 0) free_link)

  pub same-links : left.ls' m lent ≡ ls
  same-links = ext_get_or 0 (left.ls' m lent) ls (left.long-ls m lent) (λ q h.
      let b : q < length ls = omega (arith, left.long-ls m lent) in
      ⊎_elim
      (λ (z : get_or (left.fs m lent) q 0 ≡ 0). left.link-freed m lent q b z ∙ sym (was_free q b z))
      (λ (n : get_or (left.fs m lent) q 0 ≡ 0 → ⊥). left.link-kept m lent q b n)
      (same? (get_or (left.fs m lent) q 0) 0))

  same-portion : (q : ℕ) → q < length ls → portion (left.st' m lent) q ≡ portion st q
  same-portion q b = ⊎_elim
      (λ (z : get_or (left.fs m lent) q 0 ≡ 0).
      left.portion-cut m lent q b ∙ ap (λ (n : ℕ). cut n (portion st q)) (let e : get_or (left.fs m lent) q 0 - 1 ≡ 0 = omega arith in e)
      ∙ cut-zero 0 (portion st q) (s.bytes.blank q b (was_free q b z)))
      (λ (u : get_or (left.fs m lent) q 0 ≡ 0 → ⊥).
      let r = owner m lent E q (left.few m lent) b u in
      let l = r.1.0.0 in
      let f = fair m r.0 r.1.0.1 in
      let below = held_below m r.0 f lent in
      bytes-portion st (left.st' m lent) (held m r.0)
      (λ p h. length-cell 256 st p (left.room m lent p (below p h)))
      (λ p h. length-cell 256 (left.st' m lent) p (omega (arith, left.room m lent p (below p h), left.long-st m lent)))
      (left.bytes-kept m lent r.0 l r.1.0.1
      ∙ cut-zero (size (entry dir r.0)) (bytes_of st (held m r.0)) (rw (counted r.0 (fair-some m r.0 f)) at (s.bytes.tailed r.0 l)))
      q r.1.1)
      (same? (get_or (left.fs m lent) q 0) 0)

  pub same_store : left.st' m lent ≡ st
  same_store = ext_get_or 0 (left.st' m lent) st (left.long-st m lent) (λ k h.
      let b : k < length st = omega (arith, left.long-st m lent) in
      let q : k / 256 < length ls = omega (arith, lent-store st ls dir lent) in
      let w : k ≡ k / 256 * 256 + k % 256 = omega arith in
      ap (λ (x : ℕ). get_or (left.st' m lent) x 0) w ∙ sym (cell_at 256 (left.st' m lent) (k / 256) (k % 256) (omega arith))
      ∙ ap (λ (l : List ℕ). get_or l (k % 256) 0) (same-portion (k / 256) q)
      ∙ cell_at 256 st (k / 256) (k % 256) (omega arith) ∙ ap (λ (x : ℕ). get_or st x 0) (sym w))
