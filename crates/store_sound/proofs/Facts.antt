-- `store_sound`, the computed test, as facts and back.
use mathlib.Core.Path.{◌≡◌, refl, sym, ap, ◌∙◌, subst}
use mathlib.Core.List.{List}
use mathlib.Core.Bool.{Bool, true, false, not, ◌&&◌, ◌||◌, false≢true}
use mathlib.Core.Logic.{⊎_elim}
use Prim.Native.Nat.{ℕ, zero, suc, ◌+◌, ◌-◌, ◌*◌, ◌≤◌, ◌<◌}
use native.Mathlib.Omega.{arith}
use lib.ListN.{length, get_or, drop}
use lib.Dec.{eqb, leb}
use borrow.Author.Tests.{eq-eqb, ne_eqb, eqb-true, leb-true, le-leb}
use Rattle.cells.specs.Count.{times, all_zero}
use Rattle.cells.specs.Scan.{lowest}
use Rattle.cells.proofs.Counts.{all-at, all_of}
use Rattle.cells.proofs.Scan.{lowest-passes, lowest-first}
use Rattle.std.specs.Prelude.{None, Option, Some}
use Rattle.store.specs.Chain.{chain, bytes_of, needed}
use Rattle.store.specs.Entry.{entries, entry, kind, name, size, many, of_kind}
use Rattle.finding.specs.Find.{is_recording, same_name, titled, found}
use Rattle.finding.proofs.Finding.{at-says, found_at}
use Rattle.ground.proofs.Tests.{same?, and_left, and_right, and_both}
use Rattle.store_sound.specs.Sound.{lent_ok, kind_ok, kinds_ok, name_ok, named_ok, names_ok, is_here, unique_ok, uniques_ok, single_ok, singles_ok, firsts, counts, chains_ok, empty_ok, empties_ok, free_ok, frees_ok, tail_of, tail_ok, tails_ok, store_sound}
use Rattle.store_sound.proofs.Linked.{Linked, linked-facts, facts-linked, held_below, held-once}
use Rattle.store_sound.proofs.Bytes.{Filled}
use Rattle.store_sound.proofs.Content.{few, tail-chain}
use Rattle.store_sound.proofs.PutSound.{chain_length}

abbrev pub sizes_of : List ℕ → ℕ → ℕ
sizes_of dir i = size (entry dir i)

-- what sound says, for the entries below E
pub record SoundAt (st ls dir : List ℕ) (E : ℕ) : Type 0 where
  pub lent : lent_ok st ls dir ≡ true
  pub kinds : (i : ℕ) → i < E → kind (entry dir i) ≤ 3
  pub names : (i : ℕ) → i < E → (kind (entry dir i) ≡ 0 → ⊥) → name_ok (entry dir i) ≡ true
  pub unique : (p : Bool) (i j : ℕ) → i < E → j < E → of_kind p (kind (entry dir i)) ≡ true → of_kind p (kind (entry dir j)) ≡ true
      → name (entry dir i) ≡ name (entry dir j) → i ≡ j
  pub single : (i j : ℕ) → i < E → j < E → kind (entry dir i) ≡ 3 → kind (entry dir j) ≡ 3 → i ≡ j
  pub empty : (i : ℕ) → i < E → kind (entry dir i) ≡ 0 → all_zero (entry dir i) ≡ true
  pub links : Linked ls (firsts dir) (counts dir) (E)
  pub bytes : Filled st ls (firsts dir) (counts dir) (sizes_of dir) (E)

abbrev pub Sound : List ℕ → List ℕ → List ℕ → Type 0
Sound st ls dir = SoundAt st ls dir (entries dir)

-- ---- lengths

module _ (st ls dir : List ℕ) (h : lent_ok st ls dir ≡ true) where
  pub lent-few : length ls ≤ 2024
  unfolding lent_ok
  lent-few = leb-true (length ls) 2024 (and_left (leb (length ls) 2024) _ h)

  rest : (leb 1 (length ls) && (eqb (length st) (length ls * 256) && (eqb (length dir) (entries dir * 16) && (leb 1 (entries dir) && leb (entries dir) 512)))) ≡ true
  unfolding lent_ok
  rest = and_right (leb (length ls) 2024) _ h

  pub lent-store : length st ≡ length ls * 256
  lent-store = eqb-true (length st) (length ls * 256) (and_left (eqb (length st) (length ls * 256)) _ (and_right (leb 1 (length ls)) _ rest))

  pub lent-whole : length dir ≡ entries dir * 16
  lent-whole = eqb-true (length dir) (entries dir * 16) (and_left (eqb (length dir) (entries dir * 16)) _ (and_right (eqb (length st) (length ls * 256)) _ (and_right (leb 1 (length ls)) _ rest)))

-- lengths alone decide
pub lent_same : (st ls dir st' ls' dir' : List ℕ) → length st' ≡ length st → length ls' ≡ length ls → length dir' ≡ length dir → lent_ok st' ls' dir' ≡ lent_ok st ls dir
unfolding lent_ok
lent_same st ls dir st' ls' dir' a b c = rw (a, b, c)

-- ---- tests of one entry

if-not : (a b : ℕ) (t : Bool) → (eqb a b || t) ≡ true → (a ≡ b → ⊥) → t ≡ true
if-not a b t h n = rw (ne_eqb a b n) at h

of-not : (a b : ℕ) (t : Bool) → ((a ≡ b → ⊥) → t ≡ true) → (eqb a b || t) ≡ true
of-not a b t h = ⊎_elim (λ (e : a ≡ b). rw (eq-eqb a b e)) (λ (n : a ≡ b → ⊥). rw (ne_eqb a b n) (h n)) (same? a b)

if-eq : (a b : ℕ) (t : Bool) → (not (eqb a b) || t) ≡ true → a ≡ b → t ≡ true
if-eq a b t h e = rw (eq-eqb a b e) at h

of_eq : (a b : ℕ) (t : Bool) → (a ≡ b → t ≡ true) → (not (eqb a b) || t) ≡ true
of_eq a b t h = ⊎_elim (λ (e : a ≡ b). rw (eq-eqb a b e) (h e)) (λ (n : a ≡ b → ⊥). rw (ne_eqb a b n)) (same? a b)

here-says : (i : ℕ) (f : Option ℕ) → is_here i f ≡ true → f ≡ Some i
here-says i (Some j) h = ap Some (eqb-true j i h)
here-says i None h = absurd (false≢true h)

eqb-self : (x : ℕ) → eqb x x ≡ true
eqb-self x = eq-eqb x x refl

pub own_name : (e : List ℕ) → same_name e (name e) ≡ true
unfolding same_name name
own_name e = simp eqb-self

pub same_names : (e f : List ℕ) → same_name e (name f) ≡ true → name e ≡ name f
unfolding same_name name
same_names e f h =
    let at = all-at (λ (k : ℕ). eqb (get_or e (2 + k) 0) (get_or (name f) k 0)) 8 h in
    let b : ((k : ℕ) → k < 8 → get_or e (2 + k) 0 ≡ get_or (name f) k 0) = λ k l. eqb-true _ _ (at k l) in
    cc (b 0 (omega arith), b 1 (omega arith), b 2 (omega arith), b 3 (omega arith), b 4 (omega arith), b 5 (omega arith), b 6 (omega arith), b 7 (omega arith))

-- a kind is a picture's or a form's
pub kind-class : (p : Bool) (k : ℕ) → of_kind p k ≡ true → eqb k 2 ≡ p
kind-class true k h = h
kind-class false k h = ne_eqb k 2 (λ e. false≢true (rw e at h))

pub own-class : (k : ℕ) → k ≤ 3 → (k ≡ 0 → ⊥) → of_kind (eqb k 2) k ≡ true
own-class zero h n = absurd (n refl)
own-class (suc zero) h n = refl
own-class (suc (suc zero)) h n = refl
own-class (suc (suc (suc zero))) h n = refl
own-class (suc (suc (suc (suc k)))) h n = absurd (omega arith)

module _ (dir : List ℕ) where
  titled-says : (p : Bool) (n : List ℕ) (i : ℕ) → titled dir p n i ≡ true → (of_kind p (kind (entry dir i)) ≡ true) × (same_name (entry dir i) n ≡ true)
  unfolding titled
  titled-says p n i h = (and_left _ (same_name (entry dir i) n) h, and_right (of_kind p (kind (entry dir i))) _ h)

  titled-own : (p : Bool) (i : ℕ) → of_kind p (kind (entry dir i)) ≡ true → titled dir p (name (entry dir i)) i ≡ true
  unfolding titled
  titled-own p i h = and_both _ _ h (own_name (entry dir i))

  -- found where it stands
  pub unique-says : (i : ℕ) → unique_ok dir i ≡ true → (kind (entry dir i) ≡ 0 → ⊥)
      → lowest (titled dir (eqb (kind (entry dir i)) 2) (name (entry dir i))) (entries dir) ≡ i
  unfolding unique_ok
  unique-says i h n = (at-says _ _ i (here-says i _ (if-not (kind (entry dir i)) 0 _ h n))).0

  pub single-says : (i : ℕ) → single_ok dir i ≡ true → kind (entry dir i) ≡ 3 → lowest (is_recording dir) (entries dir) ≡ i
  unfolding single_ok
  single-says i h e = (at-says _ _ i (here-says i _ (if-eq (kind (entry dir i)) 3 _ h e))).0

  pub found_here : (test : ℕ → Bool) (i : ℕ) → i < entries dir → test i ≡ true → ((j : ℕ) → j < entries dir → test j ≡ true → j ≡ i) → is_here i (found test (entries dir)) ≡ true
  found_here test i b t u =
      let l = lowest-first test (entries dir) i b t in
      let e : lowest test (entries dir) ≡ i = u (lowest test (entries dir)) (omega arith) (lowest-passes test (entries dir) (omega arith)) in
      rw (found_at test (entries dir) (omega arith)) (eq-eqb _ i e)

-- ---- all of it

module _ (st ls dir : List ℕ) where
  abbrev E : ℕ
  E = entries dir

  pub many-some : (i : ℕ) → (kind (entry dir i) ≡ 0 → ⊥) → counts dir i ≡ needed (size (entry dir i))
  unfolding many
  many-some i n = rw (ne_eqb (kind (entry dir i)) 0 n)

  pub many-none : (i : ℕ) → kind (entry dir i) ≡ 0 → counts dir i ≡ 0
  unfolding many
  many-none i e = rw (eq-eqb (kind (entry dir i)) 0 e)

  -- a chain has no more portions than there are
  pub chain-few : Linked ls (firsts dir) (counts dir) E → (i : ℕ) → i < E → counts dir i ≤ length ls
  chain-few l i b = omega (
    arith,
    few (chain ls (firsts dir i) (counts dir i)) (length ls) (held_below ls (firsts dir) (counts dir) E l i b) (held-once ls (firsts dir) (counts dir) E l i b),
    chain_length ls (firsts dir i) (counts dir i),
  )

  -- what lies behind the size is the tail of the last portion
  tail-is : Linked ls (firsts dir) (counts dir) E → length st ≡ length ls * 256 → (i : ℕ) → i < E → (kind (entry dir i) ≡ 0 → ⊥)
      → drop (sizes_of dir i) (bytes_of st (chain ls (firsts dir i) (counts dir i))) ≡ tail_of st ls (entry dir i)
  tail-is l long i b n =
      let c : counts dir i ≡ suc (counts dir i - 1) = omega (arith, many-some i n) in
      ap (λ (m : ℕ). drop (sizes_of dir i) (bytes_of st (chain ls (firsts dir i) m))) c
      ∙ tail-chain st ls (entry dir i) (counts dir i - 1) long (subst (λ (m : ℕ). (q : ℕ) → 0 < times q (chain ls (firsts dir i) m) → q < length ls) c (held_below ls (firsts dir) (counts dir) E l i b))
      (omega (arith, chain-few l i b, many-some i n)) (omega (arith, many-some i n))

  module _ (h : store_sound st ls dir ≡ true) where
    lent : lent_ok st ls dir ≡ true
    unfolding store_sound
    lent = and_left (lent_ok st ls dir) _ h

    titles : (kinds_ok dir && (names_ok dir && (uniques_ok dir && singles_ok dir))) ≡ true
    unfolding store_sound
    titles = and_left (kinds_ok dir && (names_ok dir && (uniques_ok dir && singles_ok dir))) _ (and_right (lent_ok st ls dir) _ h)

    stored : (chains_ok ls dir && (empties_ok dir && (frees_ok st ls && tails_ok st ls dir))) ≡ true
    unfolding store_sound
    stored = and_right (kinds_ok dir && (names_ok dir && (uniques_ok dir && singles_ok dir))) _ (and_right (lent_ok st ls dir) _ h)

    linked : Linked ls (firsts dir) (counts dir) E
    linked = linked-facts ls (firsts dir) (counts dir) E (and_left (chains_ok ls dir) _ stored)

    unused : (empties_ok dir && (frees_ok st ls && tails_ok st ls dir)) ≡ true
    unused = and_right (chains_ok ls dir) _ stored

    uniques : (uniques_ok dir && singles_ok dir) ≡ true
    uniques = and_right (names_ok dir) _ (and_right (kinds_ok dir) _ titles)

    kinded : (i : ℕ) → i < E → kind (entry dir i) ≤ 3
    unfolding kinds_ok
    kinded i b = leb-true _ _ (all-at (kind_ok dir) E (and_left (kinds_ok dir) _ titles) i b)

    class-some : (p : Bool) (k : ℕ) → of_kind p k ≡ true → k ≡ 0 → ⊥
    class-some true k o z = false≢true (rw z at o)
    class-some false k o z = false≢true (rw z at o)

    lowest-at : (p : Bool) (i : ℕ) → i < E → of_kind p (kind (entry dir i)) ≡ true → lowest (titled dir p (name (entry dir i))) E ≡ i
    unfolding uniques_ok
    lowest-at p i b o =
        ap (λ (x : Bool). lowest (titled dir x (name (entry dir i))) E) (sym (kind-class p _ o))
        ∙ unique-says dir i (all-at (unique_ok dir) E (and_left (uniques_ok dir) _ uniques) i b) (class-some p _ o)

    pub sound-facts : Sound st ls dir
    unfolding names_ok singles_ok empties_ok frees_ok tails_ok
    sound-facts = record {
      lent = lent;
      kinds = kinded;
      names = λ i b n. if-not (kind (entry dir i)) 0 _ (all-at (named_ok dir) E (and_left (names_ok dir) _ (and_right (kinds_ok dir) _ titles)) i b) n;
      unique = λ p i j bi bj oi oj e. sym (lowest-at p i bi oi) ∙ ap (λ (n : List ℕ). lowest (titled dir p n) E) e ∙ lowest-at p j bj oj;
      single = λ i j bi bj ei ej.
          let s = all-at (single_ok dir) E (and_right (uniques_ok dir) _ uniques) in
          sym (single-says dir i (s i bi) ei) ∙ single-says dir j (s j bj) ej;
      empty = λ i b e. if-eq (kind (entry dir i)) 0 _ (all-at (empty_ok dir) E (and_left (empties_ok dir) _ unused) i b) e;
      links = linked;
      bytes = record {
        blank = λ q b e. if-eq (get_or ls q 0) 65535 _ (all-at (free_ok st ls) (length ls) (and_left (frees_ok st ls) _ (and_right (empties_ok dir) _ unused)) q b) e;
        tailed = λ i b. ⊎_elim
            (λ (z : kind (entry dir i) ≡ 0). rw (many-none i z) (ap all_zero (lib.Seq.drop-nil (sizes_of dir i))))
            (λ (n : kind (entry dir i) ≡ 0 → ⊥). ap all_zero (tail-is linked (lent-store st ls dir lent) i b n)
            ∙ if-not (kind (entry dir i)) 0 _ (all-at (tail_ok st ls dir) E (and_right (frees_ok st ls) _ (and_right (empties_ok dir) _ unused)) i b) n)
            (same? (kind (entry dir i)) 0);
      };
    }

  pub facts-sound : Sound st ls dir → store_sound st ls dir ≡ true
  unfolding store_sound kinds_ok names_ok uniques_ok unique_ok singles_ok single_ok empties_ok frees_ok tails_ok
  facts-sound s = and_both _ _ s.lent (and_both _ _
      (and_both _ _ (all_of (kind_ok dir) E (λ i b. le-leb _ _ (s.kinds i b)))
      (and_both _ _ (all_of (named_ok dir) E (λ i b. of-not (kind (entry dir i)) 0 _ (s.names i b)))
      (and_both _ _
      (all_of (unique_ok dir) E (λ i b. of-not (kind (entry dir i)) 0 _ (λ n.
      let o = own-class (kind (entry dir i)) (s.kinds i b) n in
      found_here dir (titled dir (eqb (kind (entry dir i)) 2) (name (entry dir i))) i b (titled-own dir _ i o)
      (λ j bj t. let w = titled-says dir _ _ j t in s.unique (eqb (kind (entry dir i)) 2) j i bj b w.0 o (same_names (entry dir j) (entry dir i) w.1)))))
      (all_of (single_ok dir) E (λ i b. of_eq (kind (entry dir i)) 3 _ (λ e.
      found_here dir (is_recording dir) i b (eq-eqb _ _ e) (λ j bj t. s.single j i bj b (eqb-true _ _ t) e)))))))
      (and_both _ _ (facts-linked ls (firsts dir) (counts dir) E s.links)
      (and_both _ _ (all_of (empty_ok dir) E (λ i b. of_eq (kind (entry dir i)) 0 _ (s.empty i b)))
      (and_both _ _ (all_of (free_ok st ls) (length ls) (λ q b. of_eq (get_or ls q 0) 65535 _ (s.bytes.blank q b)))
      (all_of (tail_ok st ls dir) E (λ i b. of-not (kind (entry dir i)) 0 _ (λ n.
      ap all_zero (sym (tail-is s.links (lent-store st ls dir s.lent) i b n)) ∙ s.bytes.tailed i b)))))))
