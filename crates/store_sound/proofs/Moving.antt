-- One entry changes: what every move shares. The memory stays sound where the new entry is, and the shelf changes in one place.
use mathlib.Core.Path.{◌≡◌, refl, sym, ap, ◌∙◌, subst}
use mathlib.Core.List.{List, [], ◌∷◌}
use mathlib.Core.Bool.{Bool, true}
use mathlib.Core.Logic.{⊎_elim}
use Prim.Native.Nat.{ℕ, zero, suc, ◌+◌, ◌*◌, ◌/◌, ◌≤◌, ◌<◌}
use native.Mathlib.Omega.{arith}
use lib.ListN.{length, get_or, take, set}
use lib.Seq.{set-set, get_or-set_same, get_or-set_other}
use lib.Dec.{eqb}
use borrow.Author.Tests.{eqb-true}
use Rattle.cells.specs.Count.{all_zero}
use Rattle.store.specs.Chain.{chain, bytes_of}
use Rattle.store.specs.Entry.{entries, entry, kind, name, size, of_kind}
use Rattle.contents.specs.Content.{content_of}
use Rattle.memory.specs.Memory.{Memory, memory}
use Rattle.ground.proofs.Tests.{same?, and_left, and_right}
use Rattle.store_sound.specs.Sound.{name_ok, firsts, counts, store_sound}
use Rattle.store_sound.specs.Shelf.{Held, held, nothing, held_of, shelf, shelf_of}
use Rattle.store_sound.proofs.Linked.{Linked, held_below}
use Rattle.store_sound.proofs.Bytes.{Filled}
use Rattle.store_sound.proofs.Content.{content-chain}
use Rattle.store_sound.proofs.Facts.{SoundAt, Sound, facts-sound, sizes_of, lent_same, lent-store, many-some, chain-few}
use Rattle.store_sound.proofs.Listing.{shelf-set, length-shelf}

-- a move of one entry: sound is kept, the shelf has x in place i and is else as it was, and so are the chains of all other entries
pub record Moved (m m' : Memory) (i : ℕ) (x : Held) : Type 0 where
  pub sound : store_sound m'.store m'.links m'.directory ≡ true
  pub shelf : shelf_of m' ≡ set (shelf_of m) i x
  pub chains : (j : ℕ) → j < entries m.directory → (j ≡ i → ⊥)
      → chain m'.links (firsts m'.directory j) (counts m'.directory j) ≡ chain m.links (firsts m.directory j) (counts m.directory j)
  pub long-store : length m'.store ≡ length m.store
  pub long-links : length m'.links ≡ length m.links
  pub long-directory : length m'.directory ≡ length m.directory

-- two moves in one place
pub moved_twice : (m m₁ m₂ : Memory) (i : ℕ) (x y : Held) → Moved m m₁ i x → Moved m₁ m₂ i y → Moved m m₂ i y
moved_twice m m₁ m₂ i x y a b = record {
  sound = b.sound;
  shelf = b.shelf ∙ ap (λ (l : List Held). set l i y) a.shelf ∙ set-set (shelf_of m) i x y;
  chains = λ j l ne. b.chains j (subst (λ (n : ℕ). j < n / 16) (sym a.long-directory) l) ne ∙ a.chains j l ne;
  long-store = b.long-store ∙ a.long-store;
  long-links = b.long-links ∙ a.long-links;
  long-directory = b.long-directory ∙ a.long-directory;
}

-- ---- an entry's content

zero-at : (l : List ℕ) (k : ℕ) → all_zero l ≡ true → get_or l k 0 ≡ 0
zero-at [] k h = refl
zero-at (x ∷ l) zero h = eqb-true x 0 (and_left (eqb x 0) (all_zero l) h)
zero-at (x ∷ l) (suc k) h = zero-at l k (and_right (eqb x 0) (all_zero l) h)

zero-size : (e : List ℕ) → all_zero e ≡ true → size e ≡ 0
unfolding size
zero-size e h = omega (arith, zero-at e 12 h, zero-at e 13 h, zero-at e 14 h, zero-at e 15 h)

pub inside : (dir : List ℕ) (j : ℕ) → j < entries dir → j * 16 + 16 ≤ length dir
inside dir j b = omega arith

module _ (st ls dir : List ℕ) (s : Sound st ls dir) where
  pub size_fits : (j : ℕ) → j < entries dir → size (entry dir j) ≤ 256 * counts dir j
  size_fits j b = ⊎_elim
      (λ (z : kind (entry dir j) ≡ 0). omega (arith, zero-size (entry dir j) (s.empty j b z)))
      (λ (n : kind (entry dir j) ≡ 0 → ⊥). omega (arith, many-some st ls dir j n))
      (same? (kind (entry dir j)) 0)

  -- on sound memory the content is the chain's bytes, cut at the size: no cap comes in
  pub content-at : (j : ℕ) → j < entries dir → content_of st ls (entry dir j) ≡ take (size (entry dir j)) (bytes_of st (chain ls (firsts dir j) (counts dir j)))
  content-at j b =
      content-chain st ls (entry dir j) (counts dir j) (lent-store st ls dir s.lent) (held_below ls (firsts dir) (counts dir) (entries dir) s.links j b)
      (chain-few st ls dir s.links j b) (size_fits j b)

-- ---- one entry changes

module _ (st ls dir st' ls' dir' : List ℕ) (i : ℕ) (e : List ℕ) (s : Sound st ls dir) (bi : i < entries dir)
    (long-st : length st' ≡ length st) (long-ls : length ls' ≡ length ls) (long-dir : length dir' ≡ length dir)
    (here : entry dir' i ≡ e) (other : (j : ℕ) → j < entries dir → (j ≡ i → ⊥) → entry dir' j ≡ entry dir j)
    (low : kind e ≤ 3) (legal : (kind e ≡ 0 → ⊥) → name_ok e ≡ true)
    (alone : (p : Bool) (j : ℕ) → j < entries dir → (j ≡ i → ⊥) → of_kind p (kind e) ≡ true → of_kind p (kind (entry dir j)) ≡ true → name e ≡ name (entry dir j) → ⊥)
    (only : kind e ≡ 3 → (j : ℕ) → j < entries dir → (j ≡ i → ⊥) → kind (entry dir j) ≡ 3 → ⊥)
    (blank : kind e ≡ 0 → all_zero e ≡ true)
    (links : Linked ls' (firsts dir') (counts dir') (entries dir)) (bytes : Filled st' ls' (firsts dir') (counts dir') (sizes_of dir') (entries dir)) where
  abbrev E : ℕ
  E = entries dir

  at : (P : List ℕ → Type 0) (j : ℕ) → j < E → (j ≡ i → P e) → ((j ≡ i → ⊥) → P (entry dir j)) → P (entry dir' j)
  at P j b y n = ⊎_elim
      (λ (q : j ≡ i). rw (q, here) (y q))
      (λ (q : j ≡ i → ⊥). rw (other j b q) (n q))
      (same? j i)

  uniqueness : (p : Bool) (j k : ℕ) → j < E → k < E → of_kind p (kind (entry dir' j)) ≡ true → of_kind p (kind (entry dir' k)) ≡ true → name (entry dir' j) ≡ name (entry dir' k) → j ≡ k
  uniqueness p j k bj bk oj ok q = ⊎_elim
      (λ (ji : j ≡ i). ⊎_elim
      (λ (ki : k ≡ i). ji ∙ sym ki)
      (λ (ki : k ≡ i → ⊥). absurd (alone p k bk ki (rw (ji, here) at oj) (rw (other k bk ki) at ok) (rw (ji, here, other k bk ki) at q)))
      (same? k i))
      (λ (ji : j ≡ i → ⊥). ⊎_elim
      (λ (ki : k ≡ i). absurd (alone p j bj ji (rw (ki, here) at ok) (rw (other j bj ji) at oj) (sym (rw (ki, here, other j bj ji) at q))))
      (λ (ki : k ≡ i → ⊥). s.unique p j k bj bk (rw (other j bj ji) at oj) (rw (other k bk ki) at ok) (rw (other j bj ji, other k bk ki) at q))
      (same? k i))
      (same? j i)

  singleness : (j k : ℕ) → j < E → k < E → kind (entry dir' j) ≡ 3 → kind (entry dir' k) ≡ 3 → j ≡ k
  singleness j k bj bk oj ok = ⊎_elim
      (λ (ji : j ≡ i). ⊎_elim
      (λ (ki : k ≡ i). ji ∙ sym ki)
      (λ (ki : k ≡ i → ⊥). absurd (only (rw (ji, here) at oj) k bk ki (rw (other k bk ki) at ok)))
      (same? k i))
      (λ (ji : j ≡ i → ⊥). ⊎_elim
      (λ (ki : k ≡ i). absurd (only (rw (ki, here) at ok) j bj ji (rw (other j bj ji) at oj)))
      (λ (ki : k ≡ i → ⊥). s.single j k bj bk (rw (other j bj ji) at oj) (rw (other k bk ki) at ok))
      (same? k i))
      (same? j i)

  pub changed-sound : Sound st' ls' dir'
  changed-sound = subst (λ (n : ℕ). SoundAt st' ls' dir' n) (sym (ap (λ (n : ℕ). n / 16) long-dir)) (record {
    lent = lent_same st ls dir st' ls' dir' long-st long-ls long-dir ∙ s.lent;
    kinds = λ j b. at (λ (x : List ℕ). kind x ≤ 3) j b (λ q. low) (λ q. s.kinds j b);
    names = λ j b. at (λ (x : List ℕ). (kind x ≡ 0 → ⊥) → name_ok x ≡ true) j b (λ q. legal) (λ q. s.names j b);
    unique = uniqueness;
    single = singleness;
    empty = λ j b. at (λ (x : List ℕ). kind x ≡ 0 → all_zero x ≡ true) j b (λ q. blank) (λ q. s.empty j b);
    links = links;
    bytes = bytes;
  })

  -- contents of all other entries stay
  module _ (same : (j : ℕ) → j < entries dir → (j ≡ i → ⊥) → bytes_of st' (chain ls' (firsts dir' j) (counts dir' j)) ≡ bytes_of st (chain ls (firsts dir j) (counts dir j))) where
    pub others-content : (j : ℕ) → j < entries dir → (j ≡ i → ⊥) → content_of st' ls' (entry dir' j) ≡ content_of st ls (entry dir j)
    others-content j b ne =
        content-at st' ls' dir' changed-sound j (subst (λ (n : ℕ). j < n) (sym (ap (λ (n : ℕ). n / 16) long-dir)) b)
        ∙ ap (λ (l : List ℕ). take (size (entry dir' j)) l) (same j b ne) ∙ ap (λ (x : List ℕ). take (size x) (bytes_of st (chain ls (firsts dir j) (counts dir j)))) (other j b ne)
        ∙ sym (content-at st ls dir s j b)

    pub moved-is : ((j : ℕ) → j < entries dir → (j ≡ i → ⊥) → chain ls' (firsts dir' j) (counts dir' j) ≡ chain ls (firsts dir j) (counts dir j)) → (x : Held) → held_of st' ls' e ≡ x → Moved (memory st ls dir) (memory st' ls' dir') i x
    moved-is c x q = record {
      sound = facts-sound st' ls' dir' changed-sound;
      shelf = shelf-set st ls dir st' ls' dir' i x long-dir bi
          (λ j b ne. (λ t. held (kind (other j b ne t)) (name (other j b ne t)) (others-content j b ne t)))
          (ap (held_of st' ls') here ∙ q);
      chains = c;
      long-store = long-st;
      long-links = long-ls;
      long-directory = long-dir;
    }

-- what stands elsewhere on the shelf stays
pub moved_other : (m m' : Memory) (i : ℕ) (x : Held) → Moved m m' i x → (j : ℕ) → (j ≡ i → ⊥) → get_or (shelf_of m') j nothing ≡ get_or (shelf_of m) j nothing
moved_other m m' i x v j ne = ap (λ (l : List Held). get_or l j nothing) v.shelf ∙ get_or-set_other (shelf_of m) i j x nothing ne

-- and in its place stands what was moved there
pub moved_here : (m m' : Memory) (i : ℕ) (x : Held) → Moved m m' i x → i < entries m.directory → get_or (shelf_of m') i nothing ≡ x
moved_here m m' i x v b =
    ap (λ (l : List Held). get_or l i nothing) v.shelf
    ∙ get_or-set_same (shelf_of m) i x nothing (subst (λ (n : ℕ). i < n) (sym (length-shelf m.store m.links m.directory)) b)
