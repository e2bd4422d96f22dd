-- What is left: entries, links, bytes, and that they are sound.
use mathlib.Core.Path.{◌≡◌, sym, ap, ◌∙◌, subst}
use mathlib.Core.List.{List}
use mathlib.Core.Bool.{Bool, true, false, not, ◌||◌, ◌&&◌, cond}
use mathlib.Core.Logic.{⊎_elim}
use Prim.Native.Nat.{ℕ, ◌+◌, ◌-◌, ◌*◌, ◌/◌, ◌%◌, ◌≤◌, ◌<◌}
use native.Mathlib.Omega.{arith}
use native.Mathlib.Decide.{dec_lt}
use lib.ListN.{length, get_or, take, drop}
use lib.Seq.{ext_get_or, drop-nil}
use lib.Dec.{eqb, ltb}
use borrow.Author.Tests.{eq-eqb, ne_eqb, eqb-true, lt-ltb, le-ltb}
use Rattle.cells.specs.Cell.{zeros}
use Rattle.cells.specs.Count.{times, all_zero}
use Rattle.cells.specs.Scan.{lowest}
use Rattle.cells.proofs.Cells.{length-zeros, get_or-zeros, cell-fits, length-cell, cell_at, cell-ext}
use Rattle.cells.proofs.Counts.{sum_same, all_of}
use Rattle.cells.proofs.Scan.{lowest-passes, lowest-most}
use Rattle.ground.proofs.Tests.{same?}
use Rattle.store.specs.Chain.{free_link, needed, chain, chain_ok, portion, bytes_of}
use Rattle.store.specs.Entry.{most_entries, bytes_an_entry, entries, entry, kind, name, first, size, many, of_kind}
use Rattle.contents.specs.Content.{content_of}
use Rattle.std.specs.Prelude.{None}
use Rattle.finding.specs.Find.{is_recording, recorded}
use Rattle.finding.proofs.Finding.{found_nothing}
use Rattle.memory.specs.Memory.{Memory}
use Rattle.store_sound.specs.Sound.{lent_ok, firsts, counts, uses, store_sound}
use Rattle.store_sound.specs.Shelf.{held as held_as, nothing, held_of, shelf}
use Rattle.store_sound.proofs.Frame.{Agree, chain-frame, chain_ok-frame}
use Rattle.store_sound.proofs.Linked.{Linked}
use Rattle.store_sound.proofs.Bytes.{Filled}
use Rattle.store_sound.proofs.Content.{content-chain}
use Rattle.store_sound.proofs.Erase.{all_zero-zeros, zeros-kind, zeros-many, zeros-held}
use Rattle.store_sound.proofs.Facts.{SoundAt, facts-sound, sizes_of, lent_same, lent-store, lent-few, many-some}
use Rattle.store_sound.proofs.Listing.{length-list_to, get_or-list_to, shelf-at}
use Rattle.store_sound.proofs.Moving.{inside}
use Rattle.pcx.specs.Rules.{legal}
use Rattle.forms.specs.Form.{form_ok}
use Rattle.content_check.specs.Contents.{content_ok, contents_ok}
use Rattle.verdicts.specs.Verdicts.{kept, is_kept}
use Rattle.mending.specs.Mending.{kept_byte, kept_directory, kept_link, kept_links, kept_content, kept_store}
use Rattle.mended.specs.Fair.{known_before, said, held}
use Rattle.mended.proofs.Chains.{chain-taken, chain-most}
use Rattle.mended.proofs.Cuts.{cut, length_cut, cut_in, cut_out, take-cut, zero-cut}
use Rattle.mended.proofs.Fills.{share, cut-bytes}
use Rattle.mended.proofs.Tests.{fair-some, fair-low, held_below, held-once, fair-content}
use Rattle.mended.proofs.Judging.{keeps, keeps-kept, keeps-none, verdict-at, Noted, mark-yes, mark-no, lent-entries, fair, noted-all}
use Rattle.mended.proofs.Kept.{class-kind, owner, kept-apart}

module _ (m : Memory) (lent : lent_ok m.store m.links m.directory ≡ true) where
  abbrev st : List ℕ
  st = m.store

  abbrev ls : List ℕ
  ls = m.links

  abbrev dir : List ℕ
  dir = m.directory

  abbrev E : ℕ
  E = entries dir

  abbrev yes? : ℕ → Type 0
  yes? i = said m i ≡ kept

  abbrev own : ℕ → List ℕ
  own i = held m i

  abbrev vs : List ℕ
  vs = (known_before m E).verdicts

  abbrev pub fs : List ℕ
  fs = (known_before m E).fills

  abbrev pub st' : List ℕ
  st' = kept_store st fs

  abbrev pub ls' : List ℕ
  ls' = kept_links ls fs

  abbrev pub dir' : List ℕ
  dir' = kept_directory dir vs

  pub few : E ≤ most_entries
  few = lent-entries st ls dir lent

  pub notes : Noted m E
  notes = noted-all m lent E few

  pub long-st : length st' ≡ length st
  unfolding kept_store
  long-st = length-list_to (kept_content st fs) (length st)

  pub long-ls : length ls' ≡ length ls
  unfolding kept_links
  long-ls = length-list_to (kept_link ls fs) (length ls)

  pub long-dir : length dir' ≡ length dir
  unfolding kept_directory
  long-dir = length-list_to (kept_byte dir vs) (length dir)

  long-store : length st ≡ length ls * 256
  long-store = lent-store st ls dir lent

  -- ---- entries

  pub byte_at : (k : ℕ) → k < length dir → get_or dir' k 0 ≡ cond (is_kept vs (k / 16)) (get_or dir k 0) 0
  unfolding kept_directory kept_byte
  byte_at k b = get_or-list_to (kept_byte dir vs) (length dir) k 0 b

  pub entry_kept : (i : ℕ) → i < E → yes? i → entry dir' i ≡ entry dir i
  entry_kept i b y = cell-ext 16 dir dir' i long-dir (inside dir i b) (λ o l.
      let d : (i * 16 + o) / 16 ≡ i = omega arith in
      byte_at (i * 16 + o) (omega (arith, inside dir i b)) ∙ rw (d, eq-eqb (get_or vs i 0) 1 (verdict-at m E i b few ∙ y)))

  pub entry-dropped : (i : ℕ) → i < E → (yes? i → ⊥) → entry dir' i ≡ zeros bytes_an_entry
  entry-dropped i b n =
      let l = length-cell 16 dir' i (omega (arith, inside dir i b, long-dir)) in
      ext_get_or 0 (entry dir' i) (zeros 16) (l ∙ sym (length-zeros 16))
      (λ o h.
      let bo : o < 16 = omega arith in
      let d : (i * 16 + o) / 16 ≡ i = omega arith in
      cell_at 16 dir' i o bo ∙ byte_at (i * 16 + o) (omega (arith, inside dir i b))
      ∙ rw (d, ne_eqb (get_or vs i 0) 1 (λ z. n (sym (verdict-at m E i b few) ∙ z))) (sym (get_or-zeros 16 o bo)))

  dropped-kind : (i : ℕ) → i < E → (yes? i → ⊥) → kind (entry dir' i) ≡ 0
  dropped-kind i b n = ap kind (entry-dropped i b n) ∙ zeros-kind

  dropped-many : (i : ℕ) → i < E → (yes? i → ⊥) → counts dir' i ≡ 0
  dropped-many i b n = ap many (entry-dropped i b n) ∙ zeros-many

  kept-many : (i : ℕ) → i < E → yes? i → counts dir' i ≡ needed (size (entry dir i))
  kept-many i b y = ap many (entry_kept i b y) ∙ many-some st ls dir i (fair-some m i (fair m i y))

  -- no entry is of kind 3: the forms that were being recorded are gone
  kinds-now : (i : ℕ) → i < E → kind (entry dir' i) ≤ 2
  kinds-now i b = ⊎_elim
      (λ (y : yes? i). omega (arith, fair-low m i (fair m i y), ap kind (entry_kept i b y)))
      (λ (n : yes? i → ⊥). omega (arith, dropped-kind i b n))
      (same? (said m i) 1)

  -- ---- links

  link_at : (q : ℕ) → q < length ls → get_or ls' q 0 ≡ cond (eqb (get_or fs q 0) 0) free_link (get_or ls q 0)
  unfolding kept_links kept_link
  link_at q b = get_or-list_to (kept_link ls fs) (length ls) q 0 b

  pub link-kept : (q : ℕ) → q < length ls → (get_or fs q 0 ≡ 0 → ⊥) → get_or ls' q 0 ≡ get_or ls q 0
  link-kept q b n = link_at q b ∙ rw (ne_eqb (get_or fs q 0) 0 n)

  pub link-freed : (q : ℕ) → q < length ls → get_or fs q 0 ≡ 0 → get_or ls' q 0 ≡ free_link
  link-freed q b z = link_at q b ∙ rw (eq-eqb (get_or fs q 0) 0 z)

  pub in_use : (i : ℕ) → i < E → yes? i → (q : ℕ) → 0 < times q (own i) → get_or fs q 0 ≡ 0 → ⊥
  in_use i b y q h z = omega (arith, notes.parts i b y q h)

  below : (i : ℕ) → yes? i → (q : ℕ) → 0 < times q (own i) → q < length ls
  below i y = held_below m i (fair m i y) lent

  agree : (i : ℕ) → i < E → yes? i → Agree (own i) ls ls'
  agree i b y q h = link-kept q (below i y q h) (in_use i b y q h)

  -- the chains of kept entries are what they were
  pub chain-kept : (i : ℕ) → i < E → yes? i → chain ls' (firsts dir' i) (counts dir' i) ≡ own i
  chain-kept i b y =
      ap (λ (e : List ℕ). chain ls' (first e) (counts dir' i)) (entry_kept i b y) ∙ ap (chain ls' (firsts dir i)) (kept-many i b y)
      ∙ chain-frame ls ls' (firsts dir i) (needed (size (entry dir i))) (agree i b y)

  chain-dropped : (i : ℕ) → i < E → (yes? i → ⊥) → (q : ℕ) → times q (chain ls' (firsts dir' i) (counts dir' i)) ≡ 0
  chain-dropped i b n q = ap (λ (k : ℕ). times q (chain ls' (firsts dir' i) k)) (dropped-many i b n)

  same-uses : (q : ℕ) → uses ls' (firsts dir') (counts dir') q E ≡ uses ls (firsts dir) (keeps m) q E
  same-uses q = sum_same (λ (i : ℕ). times q (chain ls' (firsts dir' i) (counts dir' i))) (λ (i : ℕ). times q (chain ls (firsts dir i) (keeps m i))) E (λ i b. ⊎_elim
      (λ (y : yes? i). ap (times q) (chain-kept i b y) ∙ ap (λ (k : ℕ). times q (chain ls (firsts dir i) k)) (sym (keeps-kept m i y)))
      (λ (n : yes? i → ⊥). chain-dropped i b n q ∙ sym (ap (λ (k : ℕ). times q (chain ls (firsts dir i) k)) (keeps-none m i n)))
      (same? (said m i) 1))

  -- a portion that is free now is in no kept chain
  pub now-free : (q : ℕ) → q < length ls → get_or ls' q 0 ≡ free_link → get_or fs q 0 ≡ 0
  now-free q b k = ⊎_elim
      (λ (z : get_or fs q 0 ≡ 0). z)
      (λ (u : get_or fs q 0 ≡ 0 → ⊥).
      let r = owner m lent E q few b u in
      let c = (fair m r.0 r.1.0.1).chained in
      absurd (chain-taken ls (lent-few st ls dir lent) (firsts dir r.0) (needed (size (entry dir r.0))) q c r.1.1 (sym (link-kept q b u) ∙ k)))
      (same? (get_or fs q 0) 0)

  linked : Linked ls' (firsts dir') (counts dir') E
  linked = record {
    chained = λ i b n. ⊎_elim
        (λ (y : yes? i).
        ap (λ (e : List ℕ). chain_ok ls' (first e) (counts dir' i)) (entry_kept i b y) ∙ ap (chain_ok ls' (firsts dir i)) (kept-many i b y)
        ∙ chain_ok-frame ls ls' (firsts dir i) (needed (size (entry dir i))) long-ls (agree i b y) ∙ (fair m i y).chained)
        (λ (d : yes? i → ⊥). absurd (n (dropped-many i b d)))
        (same? (said m i) 1);
    free = λ q b k.
        let l : q < length ls = rw long-ls at b in
        same-uses q ∙ notes.marks q l ∙ mark-yes _ (now-free q l k);
    taken = λ q b n.
        let l : q < length ls = rw long-ls at b in
        same-uses q ∙ notes.marks q l ∙ mark-no _ (λ z. n (link-freed q l z));
  }

  -- ---- bytes

  content-byte : (k : ℕ) → k < length st → get_or st' k 0 ≡ cond (ltb (k % 256) (get_or fs (k / 256) 0 - 1)) (get_or st k 0) 0
  unfolding kept_store kept_content
  content-byte k b = get_or-list_to (kept_content st fs) (length st) k 0 b

  pub room : (q : ℕ) → q < length ls → q * 256 + 256 ≤ length st
  room q b = omega (arith, cell-fits 256 q (length ls) b, long-store)

  pub portion-cut : (q : ℕ) → q < length ls → portion st' q ≡ cut (get_or fs q 0 - 1) (portion st q)
  portion-cut q b =
      let n : ℕ = get_or fs q 0 - 1 in
      let l = length-cell 256 st q (room q b) in
      let l' = length-cell 256 st' q (omega (arith, room q b, long-st)) in
      ext_get_or 0 (portion st' q) (cut n (portion st q)) (l' ∙ sym (length_cut n (portion st q) ∙ l))
      (λ o h.
      let bo : o < 256 = omega (arith, l') in
      let d : (q * 256 + o) / 256 ≡ q = omega arith in
      let r : (q * 256 + o) % 256 ≡ o = omega arith in
      cell_at 256 st' q o bo ∙ content-byte (q * 256 + o) (omega (arith, room q b)) ∙ elim (dec_lt o n) [
        | yes k ↦ rw (d, r, lt-ltb o n k) (sym (cut_in n (portion st q) o k ∙ cell_at 256 st q o bo))
        | no k ↦ rw (d, r, le-ltb o n (omega arith)) (sym (cut_out n (portion st q) o (omega arith)))
      ])

  -- the bytes of a portion in no kept chain
  pub portion-freed : (q : ℕ) → q < length ls → get_or fs q 0 ≡ 0 → all_zero (portion st' q) ≡ true
  portion-freed q b z =
      ap all_zero (portion-cut q b ∙ ap (λ (n : ℕ). cut n (portion st q)) (let e : get_or fs q 0 - 1 ≡ 0 = omega arith in e)) ∙ zero-cut 0 (portion st q)

  -- the bytes of a kept chain, cut at the size
  pub bytes-kept : (i : ℕ) → i < E → yes? i → bytes_of st' (own i) ≡ cut (size (entry dir i)) (bytes_of st (own i))
  bytes-kept i b y = cut-bytes st st' (own i) (size (entry dir i)) (held-once m i (fair m i y) lent)
      (λ q h. length-cell 256 st q (room q (below i y q h)))
      (λ q h. portion-cut q (below i y q h)
      ∙ ap (λ (k : ℕ). cut k (portion st q)) (let e : get_or fs q 0 - 1 ≡ share (own i) (size (entry dir i)) q = omega (arith, notes.parts i b y q h) in e))

  filled-now : Filled st' ls' (firsts dir') (counts dir') (sizes_of dir') E
  filled-now = record {
    blank = λ q b k. let l : q < length ls = rw long-ls at b in portion-freed q l (now-free q l k);
    tailed = λ i b. ⊎_elim
        (λ (y : yes? i).
        ap (λ (ps : List ℕ). all_zero (drop (sizes_of dir' i) (bytes_of st' ps))) (chain-kept i b y)
        ∙ ap (λ (e : List ℕ). all_zero (drop (size e) (bytes_of st' (own i)))) (entry_kept i b y)
        ∙ ap (λ (l : List ℕ). all_zero (drop (size (entry dir i)) l)) (bytes-kept i b y) ∙ zero-cut (size (entry dir i)) (bytes_of st (own i)))
        (λ (n : yes? i → ⊥). ap (λ (k : ℕ). all_zero (drop (sizes_of dir' i) (bytes_of st' (chain ls' (firsts dir' i) k)))) (dropped-many i b n) ∙ ap all_zero (drop-nil (sizes_of dir' i)))
        (same? (said m i) 1);
  }

  -- ---- all of it

  kept_of : (i : ℕ) → i < E → (kind (entry dir' i) ≡ 0 → ⊥) → yes? i
  kept_of i b n = ⊎_elim (λ (y : yes? i). y) (λ (d : yes? i → ⊥). absurd (n (dropped-kind i b d))) (same? (said m i) 1)

  two-apart : (p : Bool) (i j : ℕ) → i < j → j < E → of_kind p (kind (entry dir' i)) ≡ true → of_kind p (kind (entry dir' j)) ≡ true → name (entry dir' i) ≡ name (entry dir' j) → ⊥
  two-apart p i j l bj oi oj e =
      let bi : i < E = omega arith in
      let ki = class-kind p _ oi (kinds-now i bi) in
      let kj = class-kind p _ oj (kinds-now j bj) in
      let yi = kept_of i bi (λ z. some p (sym ki ∙ z)) in
      let yj = kept_of j bj (λ z. some p (sym kj ∙ z)) in
      (kept-apart m lent j bj yj).names i (l, yi) (ap kind (sym (entry_kept j bj yj)) ∙ kj ∙ sym ki ∙ ap kind (entry_kept i bi yi))
      (sym (rw (entry_kept i bi yi, entry_kept j bj yj) at e))
    where
      some : (p : Bool) → cond {A = ℕ} p 2 1 ≡ 0 → ⊥
      some true z = omega arith
      some false z = omega arith

  sound-at : SoundAt st' ls' dir' E
  sound-at = record {
    lent = lent_same st ls dir st' ls' dir' long-st long-ls long-dir ∙ lent;
    kinds = λ i b. omega (arith, kinds-now i b);
    names = λ i b n. let y = kept_of i b n in rw (entry_kept i b y) (fair m i y).named;
    unique = λ p i j bi bj oi oj e. elim (dec_lt i j) [
      | yes l ↦ absurd (two-apart p i j l bj oi oj e)
      | no l ↦ elim (dec_lt j i) [
        | yes k ↦ absurd (two-apart p j i k bi oj oi (sym e))
        | no k ↦ omega arith
      ]
    ];
    single = λ i j bi bj ei ej. absurd (omega (arith, kinds-now i bi, ei));
    empty = λ i b e. ⊎_elim
        (λ (y : yes? i). absurd (fair-some m i (fair m i y) (sym (ap kind (entry_kept i b y)) ∙ e)))
        (λ (n : yes? i → ⊥). rw (entry-dropped i b n) (all_zero-zeros 16))
        (same? (said m i) 1);
    links = linked;
    bytes = filled-now;
  }

  pub sound-now : store_sound st' ls' dir' ≡ true
  sound-now = facts-sound st' ls' dir' (subst (λ (n : ℕ). SoundAt st' ls' dir' n) (sym (ap (λ (n : ℕ). n / 16) long-dir)) sound-at)

  pub quiet-now : recorded dir' ≡ None
  quiet-now =
      let x : ℕ = lowest (is_recording dir') (entries dir') in
      found_nothing (is_recording dir') (entries dir') (elim (dec_lt x (entries dir')) [
        | yes l ↦
            let b : x < E = subst (λ (n : ℕ). x < n / 16) long-dir l in
            absurd (omega (arith, kinds-now x b, eqb-true (kind (entry dir' x)) 3 (lowest-passes (is_recording dir') (entries dir') l)))
        | no l ↦ omega (arith, lowest-most (is_recording dir') (entries dir'))
      ])

  -- ---- contents

  content-kept : (i : ℕ) → i < E → yes? i → content_of st' ls' (entry dir' i) ≡ content_of st ls (entry dir i)
  content-kept i b y =
      let e : List ℕ = entry dir i in
      let n : ℕ = needed (size e) in
      let f : chain ls' (first e) n ≡ own i = chain-frame ls ls' (firsts dir i) n (agree i b y) in
      let most = chain-most ls (lent-few st ls dir lent) (firsts dir i) n (fair m i y).chained in
      ap (content_of st' ls') (entry_kept i b y)
      ∙ content-chain st' ls' e n (long-st ∙ long-store ∙ ap (λ (k : ℕ). k * 256) (sym long-ls))
      (λ q h. rw long-ls (below i y q (rw f at h))) (omega (arith, most, long-ls)) (omega arith)
      ∙ ap (λ (ps : List ℕ). take (size e) (bytes_of st' ps)) f ∙ ap (take (size e)) (bytes-kept i b y) ∙ take-cut (size e) (bytes_of st (own i))
      ∙ sym (fair-content m i (fair m i y) lent)

  content-same : (i : ℕ) → i < E → yes? i → content_ok st' ls' dir' i ≡ content_ok st ls dir i
  unfolding content_ok
  content-same i b y = λ t.
      (not (of_kind false (kind (entry_kept i b y t))) || form_ok (content-kept i b y t))
      && (not (of_kind true (kind (entry_kept i b y t))) || legal (content-kept i b y t))

  content-none : (i : ℕ) → i < E → (yes? i → ⊥) → content_ok st' ls' dir' i ≡ true
  unfolding content_ok
  content-none i b n = rw (dropped-kind i b n)

  pub contents-now : contents_ok st' ls' dir' ≡ true
  unfolding contents_ok
  contents-now = all_of (content_ok st' ls' dir') (entries dir') (λ i b.
      let l : i < E = subst (λ (n : ℕ). i < n / 16) long-dir b in
      ⊎_elim
      (λ (y : yes? i). content-same i l y ∙ (fair m i y).content)
      (λ (n : yes? i → ⊥). content-none i l n)
      (same? (said m i) 1))

  -- ---- the shelf

  inside-now : (i : ℕ) → i < E → i < entries dir'
  inside-now i b = subst (λ (n : ℕ). i < n / 16) (sym long-dir) b

  pub shelf-kept : (i : ℕ) → i < E → yes? i → get_or (shelf st' ls' dir') i nothing ≡ get_or (shelf st ls dir) i nothing
  shelf-kept i b y =
      shelf-at st' ls' dir' i (inside-now i b)
      ∙ (λ t. held_as (kind (entry_kept i b y t)) (name (entry_kept i b y t)) (content-kept i b y t)) ∙ sym (shelf-at st ls dir i b)

  pub shelf-dropped : (i : ℕ) → i < E → (yes? i → ⊥) → get_or (shelf st' ls' dir') i nothing ≡ nothing
  shelf-dropped i b n = shelf-at st' ls' dir' i (inside-now i b) ∙ ap (held_of st' ls') (entry-dropped i b n) ∙ zeros-held st' ls'
