-- Paper 02, §11, sentence by sentence: what is said of the entries of any memory `m`, and what is left of it. `said m i` is what is said of entry i, and
-- the verdicts that the call lists are just these (`listed`); `mended m` is what the call leaves (crate `repair`). `lent_ok` says that store, links and
-- directory have lengths of paper 01; a call with others is refused, with nothing touched.
-- Assumes nothing.
use mathlib.Core.Path.{◌≡◌, ap, ◌∙◌}
use mathlib.Core.List.{List}
use mathlib.Core.Bool.{Bool, true, false}
use mathlib.Core.Logic.{◌↔◌, ⊎_elim}
use Prim.Native.Nat.{ℕ, ◌≤◌, ◌<◌}
use native.Mathlib.Omega.{arith}
use lib.ListN.{length, get_or, drop}
use lib.Dec.{eqb}
use borrow.Author.Tests.{eq-eqb, ne_eqb, eqb-true, eqb-false}
use Rattle.cells.specs.Cell.{zeros}
use Rattle.cells.specs.Count.{times, all_zero}
use Rattle.ground.proofs.Tests.{same?}
use Rattle.store.specs.Chain.{free_link, chain, chain_ok, portion, bytes_of}
use Rattle.store.specs.Entry.{bytes_an_entry, entries, kind, name, first, size, of_kind}
use Rattle.std.specs.Prelude.{None}
use Rattle.finding.specs.Find.{is_empty, recorded}
use Rattle.memory.specs.Memory.{Memory, memory, entry_of}
use Rattle.store_sound.specs.Sound.{lent_ok, firsts, counts, store_sound}
use Rattle.store_sound.specs.Shelf.{nothing, shelf_of}
use Rattle.store_sound.proofs.Facts.{lent-few}
use Rattle.store_sound.proofs.Frame.{chain-below}
use Rattle.content_check.specs.Contents.{contents_ok}
use Rattle.verdicts.specs.Verdicts.{unsaid, kept, for_name, for_chain, for_size, for_shared, for_content, name_kept, wrong_name, portions, wrong_chain, wrong_size, shared, wrong_content, verdict, judged_all}
use Rattle.mending.specs.Mending.{mended_by, mended}
use Rattle.mended.specs.Fair.{known_before, said, held, EarlierKept, Fair, Apart}
use Rattle.mended.proofs.Reasons.{later, here, never}
use Rattle.mended.proofs.Chains as walks
use Rattle.mended.proofs.Cuts.{zero-cut}
use Rattle.mended.proofs.Judging.{lent-entries, verdict-at, fair}
use Rattle.mended.proofs.Kept.{owner, name-from, from-name, portion-from, from-portion, kept-apart, apart-kept}
use Rattle.mended.proofs.Left as left
use Rattle.mended.proofs.Unchanged as unchanged

-- ---- "one line for each entry not of kind 0 ..: `kept` or the first reason to drop it: `name`, `chain`, `size`, `shared` or `content`": each reason is
-- given exactly when the entry is not empty, no reason before it holds, and it does; and nothing is said exactly of the entries of kind 0

module _ (m : Memory) (i : ℕ) where
  -- the tests on entry i, as they come out where it is judged
  abbrev empty : Bool
  empty = is_empty m.directory i

  abbrev on_name : Bool
  on_name = wrong_name m.directory (known_before m i).verdicts i

  abbrev on_chain : Bool
  on_chain = wrong_chain m.links (entry_of m i)

  abbrev on_size : Bool
  on_size = wrong_size m.links (entry_of m i)

  abbrev on_shared : Bool
  on_shared = shared m.links (known_before m i).fills (entry_of m i)

  abbrev on_content : Bool
  on_content = wrong_content m i

  pub said-nothing : (said m i ≡ unsaid) ↔ (kind (entry_of m i) ≡ 0)
  unfolding verdict
  said-nothing =
      let t : (said m i ≡ unsaid) ↔ (empty ≡ true) = here empty (never on_name (λ z. omega arith) (never on_chain (λ z. omega arith) (never on_size (λ z. omega arith)
      (never on_shared (λ z. omega arith) (never on_content (λ z. omega arith) (λ z. omega arith)))))) in
      (λ v. eqb-true (kind (entry_of m i)) 0 (t.0 v), λ k. t.1 (eq-eqb (kind (entry_of m i)) 0 k))

  pub said-name : (said m i ≡ for_name) ↔ ((empty ≡ false) × (on_name ≡ true))
  unfolding verdict
  said-name = later empty (λ z. omega arith) (here on_name (never on_chain (λ z. omega arith) (never on_size (λ z. omega arith)
      (never on_shared (λ z. omega arith) (never on_content (λ z. omega arith) (λ z. omega arith))))))

  pub said-chain : (said m i ≡ for_chain) ↔ ((empty ≡ false) × ((on_name ≡ false) × (on_chain ≡ true)))
  unfolding verdict
  said-chain = later empty (λ z. omega arith) (later on_name (λ z. omega arith) (here on_chain (never on_size (λ z. omega arith)
      (never on_shared (λ z. omega arith) (never on_content (λ z. omega arith) (λ z. omega arith))))))

  pub said-size : (said m i ≡ for_size) ↔ ((empty ≡ false) × ((on_name ≡ false) × ((on_chain ≡ false) × (on_size ≡ true))))
  unfolding verdict
  said-size = later empty (λ z. omega arith) (later on_name (λ z. omega arith) (later on_chain (λ z. omega arith) (here on_size
      (never on_shared (λ z. omega arith) (never on_content (λ z. omega arith) (λ z. omega arith))))))

  pub said-shared : (said m i ≡ for_shared) ↔ ((empty ≡ false) × ((on_name ≡ false) × ((on_chain ≡ false) × ((on_size ≡ false) × (on_shared ≡ true)))))
  unfolding verdict
  said-shared = later empty (λ z. omega arith) (later on_name (λ z. omega arith) (later on_chain (λ z. omega arith) (later on_size (λ z. omega arith)
      (here on_shared (never on_content (λ z. omega arith) (λ z. omega arith))))))

  pub said-content :
      (said m i ≡ for_content) ↔ ((empty ≡ false) × ((on_name ≡ false) × ((on_chain ≡ false) × ((on_size ≡ false) × ((on_shared ≡ false) × (on_content ≡ true))))))
  unfolding verdict
  said-content = later empty (λ z. omega arith) (later on_name (λ z. omega arith) (later on_chain (λ z. omega arith) (later on_size (λ z. omega arith)
      (later on_shared (λ z. omega arith) (here on_content (λ z. omega arith))))))

module _ (m : Memory) (lent : lent_ok m.store m.links m.directory ≡ true) where
  abbrev ls : List ℕ
  ls = m.links

  -- the verdicts one after another are what is said
  pub listed : (i : ℕ) → i < entries m.directory → get_or (judged_all m).verdicts i 0 ≡ said m i
  unfolding judged_all
  listed i b = verdict-at m (entries m.directory) i b (lent-entries m.store ls m.directory lent)

  -- ---- "chain, a walk that meets a bad or free link or a portion twice": an entry's walk is none of these exactly when from its first portion the links
  -- lead to the end mark; and such a chain has no portion twice, none that is not there, and none that is free

  pub chain-exactly : (e : List ℕ) → (wrong_chain ls e ≡ false) ↔ ((n : ℕ) × ((0 < n) × (chain_ok ls (first e) n ≡ true)))
  chain-exactly e = (
    λ w. let some = eqb-false (portions ls e) 0 w in (portions ls e, (positive (portions ls e) some, walks.whole-chain ls (first e) some)),
    λ c. ne_eqb (portions ls e) 0 (λ z. omega (arith, walks.chain-whole ls (lent-few m.store ls m.directory lent) (first e) c.0 c.1.0 c.1.1, c.1.0)),
  )
    where
      positive : (n : ℕ) → (n ≡ 0 → ⊥) → 0 < n
      positive n h = omega arith

  pub chain-once : (p n : ℕ) → chain_ok ls p n ≡ true → (q : ℕ) → times q (chain ls p n) ≤ 1
  chain-once = walks.chain-once ls (lent-few m.store ls m.directory lent)

  pub chain-taken : (p n : ℕ) → chain_ok ls p n ≡ true → (q : ℕ) → 0 < times q (chain ls p n) → (q < length ls) × (get_or ls q 0 ≡ free_link → ⊥)
  chain-taken p n c q h = (chain-below ls p n c q h, walks.chain-taken ls (lent-few m.store ls m.directory lent) p n q c h)

  module _ (i : ℕ) (b : i < entries m.directory) where
    -- ---- "a name already kept": an earlier kept entry of its kind, where 1 and 3 are one, has it

    pub name-kept-exactly : (name_kept m.directory (known_before m i).verdicts i ≡ true)
        ↔ ((j : ℕ) × (EarlierKept m i j × ((of_kind (eqb (kind (entry_of m i)) 2) (kind (entry_of m j)) ≡ true) × (name (entry_of m i) ≡ name (entry_of m j)))))
    name-kept-exactly = (name-from m lent i b, λ r. from-name m lent i b r.0 r.1.0 r.1.1.0 r.1.1.1)

    -- ---- shared: an earlier kept entry has one of the portions that the walk of this one meets

    pub shared-exactly : wrong_chain ls (entry_of m i) ≡ false → (shared ls (known_before m i).fills (entry_of m i) ≡ true)
        ↔ ((j : ℕ) × (EarlierKept m i j × ((q : ℕ) × ((0 < times q (chain ls (first (entry_of m i)) (portions ls (entry_of m i)))) × (0 < times q (held m j))))))
    shared-exactly c = (portion-from m lent i b c, λ r. from-portion m lent i b r.0 r.1.0 r.1.1.0 r.1.1.1.0 r.1.1.1.1)

    -- ---- "An entry is kept exactly when it is a form or picture that meets every rule of sound by itself, apart from unused bytes, which are zeroed, and
    -- shares neither a portion nor a name of its kind with an earlier kept one."

    pub kept-exactly : (said m i ≡ kept) ↔ (Fair m i × Apart m i)
    kept-exactly = (λ y. (fair m i y, kept-apart m lent i b y), λ f. apart-kept m lent i b f.0 f.1)

  -- ---- "a tool over a lent store, links, directory and values .. that leaves them sound with a session as opening leaves it": nothing is being recorded then

  pub mended-sound : store_sound (mended m).store (mended m).links (mended m).directory ≡ true
  unfolding mended_by judged_all
  mended-sound = left.sound-now m lent

  pub mended-contents : contents_ok (mended m).store (mended m).links (mended m).directory ≡ true
  unfolding mended_by judged_all
  mended-contents = left.contents-now m lent

  pub mended-quiet : recorded (mended m).directory ≡ None
  unfolding mended_by judged_all
  mended-quiet = left.quiet-now m lent

  pub mended-lengths : (length (mended m).store ≡ length m.store) × ((length (mended m).links ≡ length ls) × (length (mended m).directory ≡ length m.directory))
  unfolding mended_by judged_all
  mended-lengths = (left.long-st m lent, (left.long-ls m lent, left.long-dir m lent))

  module _ (i : ℕ) (b : i < entries m.directory) (y : said m i ≡ kept) where
    -- ---- "Kept forms and pictures stay byte for byte.": kind, name and content in their place; the entry and its chain too; unused bytes "are zeroed"

    pub mended-kept : get_or (shelf_of (mended m)) i nothing ≡ get_or (shelf_of m) i nothing
    unfolding mended_by judged_all
    mended-kept = left.shelf-kept m lent i b y

    pub entry_kept : entry_of (mended m) i ≡ entry_of m i
    unfolding mended_by judged_all
    entry_kept = left.entry_kept m lent i b y

    pub chain-kept : chain (mended m).links (firsts (mended m).directory i) (counts (mended m).directory i) ≡ held m i
    unfolding mended_by judged_all
    chain-kept = left.chain-kept m lent i b y

    pub unused-zeroed : all_zero (drop (size (entry_of m i)) (bytes_of (mended m).store (held m i))) ≡ true
    unfolding mended_by judged_all
    unused-zeroed = ap (λ (l : List ℕ). all_zero (drop (size (entry_of m i)) l)) (left.bytes-kept m lent i b y) ∙ zero-cut (size (entry_of m i)) (bytes_of m.store (held m i))

  module _ (i : ℕ) (b : i < entries m.directory) (n : said m i ≡ kept → ⊥) where
    -- ---- all other places are empty, all zero

    pub mended-dropped : get_or (shelf_of (mended m)) i nothing ≡ nothing
    unfolding mended_by judged_all
    mended-dropped = left.shelf-dropped m lent i b n

    pub entry-dropped : entry_of (mended m) i ≡ zeros bytes_an_entry
    unfolding mended_by judged_all
    entry-dropped = left.entry-dropped m lent i b n

  module _ (q : ℕ) (b : q < length ls) where
    -- ---- "Portions of dropped entries are freed.": a portion is free exactly when no kept entry has it, and its bytes are zero

    abbrev Unheld : Type 0
    Unheld = (j : ℕ) → j < entries m.directory → said m j ≡ kept → times q (held m j) ≡ 0

    unnoted : Unheld → get_or (left.fs m lent) q 0 ≡ 0
    unnoted h = ⊎_elim
        (λ (z : get_or (left.fs m lent) q 0 ≡ 0). z)
        (λ (u : get_or (left.fs m lent) q 0 ≡ 0 → ⊥).
        let r = owner m lent (entries m.directory) q (left.few m lent) b u in
        absurd (omega (arith, h r.0 r.1.0.0 r.1.0.1, r.1.1)))
        (same? (get_or (left.fs m lent) q 0) 0)

    pub freed-exactly : (get_or (mended m).links q 0 ≡ free_link) ↔ Unheld
    unfolding mended_by judged_all
    freed-exactly = (
      λ f j l y. ⊎_elim
          (λ (z : times q (held m j) ≡ 0). z)
          (λ (s : times q (held m j) ≡ 0 → ⊥). absurd (left.in_use m lent j l y q (omega arith) (left.now-free m lent q b f)))
          (same? (times q (held m j)) 0),
      λ h. left.link-freed m lent q b (unnoted h),
    )

    pub freed-zeroed : Unheld → all_zero (portion (mended m).store q) ≡ true
    unfolding mended_by judged_all
    freed-zeroed h = left.portion-freed m lent q b (unnoted h)

-- ---- a store that is sound, with nothing being recorded, needs no repair: every entry is kept, and nothing changes

module _ (m : Memory) (sound : store_sound m.store m.links m.directory ≡ true) (contents : contents_ok m.store m.links m.directory ≡ true)
    (quiet : recorded m.directory ≡ None) where
  pub all-kept : (i : ℕ) → i < entries m.directory → (kind (entry_of m i) ≡ 0 → ⊥) → said m i ≡ kept
  all-kept = unchanged.all-kept m sound contents quiet

  pub mended-same : mended m ≡ m
  unfolding mended_by judged_all
  mended-same = λ t. memory (unchanged.same_store m sound contents quiet t) (unchanged.same-links m sound contents quiet t) (unchanged.same-directory m sound contents quiet t)

-- ---- so what is left needs no second repair

module _ (m : Memory) (lent : lent_ok m.store m.links m.directory ≡ true) where
  pub left-kept : (i : ℕ) → i < entries (mended m).directory → (kind (entry_of (mended m) i) ≡ 0 → ⊥) → said (mended m) i ≡ kept
  left-kept = all-kept (mended m) (mended-sound m lent) (mended-contents m lent) (mended-quiet m lent)

  pub mended-twice : mended (mended m) ≡ mended m
  mended-twice = mended-same (mended m) (mended-sound m lent) (mended-contents m lent) (mended-quiet m lent)
