-- Contents and activity when the store moves: what the shelf says decides both.
-- Assumes nothing.
use mathlib.Core.Path.{◌≡◌, refl, sym, ap, ◌∙◌, subst}
use mathlib.Core.Bool.{Bool, true, false, not, ◌&&◌, ◌||◌}
use mathlib.Core.List.{List, []}
use mathlib.Core.Logic.{◌⊎◌, inl, inr, ⊎_elim}
use Prim.Native.Nat.{ℕ, ◌*◌, ◌/◌, ◌≤◌, ◌<◌}
use native.Mathlib.Omega.{arith}
use lib.ListN.{length, get_or, take, length-replicate, drop_of_length-le}
use lib.Dec.{eqb, leb}
use borrow.Author.Tests.{eq-eqb, ne_eqb, eqb-true, leb-true, leb-false, le-ltb}
use Rattle.std.specs.Prelude.{is_some}
use Rattle.cells.specs.Cell.{cell}
use Rattle.cells.proofs.Counts.{all-at, all_of}
use Rattle.store.specs.Chain.{free_count}
use Rattle.store.specs.Entry.{entries, entry, kind, of_kind}
use Rattle.finding.specs.Find.{recorded}
use Rattle.contents.specs.Content.{content_of}
use Rattle.memory.specs.Memory.{Memory}
use Rattle.store_sound.specs.Sound.{lent_ok, store_sound}
use Rattle.store_sound.specs.Shelf.{Held, nothing, held_of, shelf_of}
use Rattle.store_sound.proofs.Facts.{sound-facts, lent-few, lent-store, lent-whole}
use Rattle.store_sound.proofs.Listing.{shelf-at}
use Rattle.store_sound.proofs.Moving.{Moved, moved_other, moved_here}
use Rattle.pcx.specs.Rules.{legal}
use Rattle.stored_values.specs.Stored.{unset}
use Rattle.counters.specs.declared.Counters.{Counters}
use Rattle.counters.specs.Counters.{none_set}
use Rattle.counter_steps.specs.Steps.{lasts}
use Rattle.values.specs.Sound.{all_set}
use Rattle.values.proofs.Sound.{sound_none}
use Rattle.forms.specs.Form.{form_ok, declared_of, pictures_stored}
use Rattle.sound.specs.Sound.{numbers_ok, active_bytes}
use Rattle.content_check.specs.Contents.{content_ok, contents_ok}
use Rattle.activity_check.specs.Activity.{active_ok, values_ok, counts_ok, owed_ok, activity_sound}
use Rattle.session.specs.declared.Session.{Session}
use Rattle.session.specs.Session.{roomed, activated}
use Rattle.lent.specs.Lent.{World, page_wrong, links_wrong, store_wrong, lengths_wrong}
use Rattle.results.specs.World.{memory_of, with_memory, unset_in}
use Rattle.results.proofs.Answers.{or-none}
use Rattle.ground.proofs.Tests.{same?, or-second, and_left, and_right, and_both, either}
use Rattle.keeps_sound.specs.Good.{Good}

-- ---- contents

-- what an entry holds is sound: a form's bytes, a picture's bytes
abbrev pub held_ok : Held → Bool
held_ok h = (not (of_kind false h.kind) || form_ok h.bytes) && (not (of_kind true h.kind) || legal h.bytes)

abbrev pub store_of : Memory → Bool
store_of m = store_sound m.store m.links m.directory

abbrev pub contents_of : Memory → Bool
contents_of m = contents_ok m.store m.links m.directory

pub contents-at : (m : Memory) → contents_of m ≡ true → (i : ℕ) → i < entries m.directory → held_ok (get_or (shelf_of m) i nothing) ≡ true
unfolding contents_ok content_ok
contents-at m h i b =
    ap held_ok (shelf-at m.store m.links m.directory i b)
    ∙ all-at (content_ok m.store m.links m.directory) (entries m.directory) h i b

pub contents-of : (m : Memory) → ((i : ℕ) → i < entries m.directory → held_ok (get_or (shelf_of m) i nothing) ≡ true) → contents_of m ≡ true
unfolding contents_ok content_ok
contents-of m h = all_of (content_ok m.store m.links m.directory) (entries m.directory)
    (λ i b. ap held_ok (sym (shelf-at m.store m.links m.directory i b)) ∙ h i b)

-- as many entries
entries-same : (m m' : Memory) → length m'.directory ≡ length m.directory → entries m'.directory ≡ entries m.directory
entries-same m m' e = ap (λ (n : ℕ). n / 16) e

-- one place of the shelf changes
pub contents-moved : (m m' : Memory) (i : ℕ) (x : Held) → Moved m m' i x → i < entries m.directory → contents_of m ≡ true → held_ok x ≡ true
    → contents_of m' ≡ true
contents-moved m m' i x v b h k = contents-of m' (λ j l. ⊎_elim
    (λ (e : j ≡ i). rw e (ap held_ok (moved_here m m' i x v b) ∙ k))
    (λ (n : j ≡ i → ⊥). ap held_ok (moved_other m m' i x v j n) ∙ contents-at m h j (omega (arith, entries-same m m' v.long-directory)))
    (same? j i))

-- ---- activity

pub record Active (s : Session) (directory bytes values : List ℕ) : Type 0 where
  pub form : active_ok directory s.active ≡ true
  pub fit : values_ok bytes values s.counters ≡ true
  pub counts : counts_ok s ≡ true
  pub owed : owed_ok s.owed directory bytes values s.counters ≡ true

module _ (s : Session) (directory bytes values : List ℕ) where
  pub activity-facts : activity_sound s directory bytes values ≡ true → Active s directory bytes values
  unfolding activity_sound
  activity-facts h =
      let r = and_right (active_ok directory s.active) _ h in
      let q = and_right (values_ok bytes values s.counters) _ r in
      record {
        form = and_left (active_ok directory s.active) _ h;
        fit = and_left (values_ok bytes values s.counters) _ r;
        counts = and_left (counts_ok s) _ q;
        owed = and_right (counts_ok s) _ q;
      }

  pub facts-activity : Active s directory bytes values → activity_sound s directory bytes values ≡ true
  unfolding activity_sound
  facts-activity a = and_both _ _ a.form (and_both _ _ a.fit (and_both _ _ a.counts a.owed))

  pub owed_none : s.owed ≡ 0 → owed_ok s.owed directory bytes values s.counters ≡ true
  unfolding owed_ok
  owed_none z = rw (eq-eqb s.owed 0 z)

-- what labels that are owed ask for
module _ (n : ℕ) (directory bytes values : List ℕ) (c : Counters) where
  pub record Owed : Type 0 where
    pub quiet : not (is_some (recorded directory)) ≡ true
    pub set : all_set (declared_of bytes) values c ≡ true
    pub lasts : lasts (declared_of bytes) c n ≡ true
    pub pictures : pictures_stored directory bytes ≡ true

  pub owed-facts : owed_ok n directory bytes values c ≡ true → (n ≡ 0 → ⊥) → Owed
  unfolding owed_ok
  owed-facts e some =
      let d = declared_of bytes in
      let rest = lasts d c n && pictures_stored directory bytes in
      let t : (not (is_some (recorded directory)) && (all_set d values c && rest)) ≡ true = rw (ne_eqb n 0 some) at e in
      let u = and_right (not (is_some (recorded directory))) (all_set d values c && rest) t in
      let v = and_right (all_set d values c) rest u in
      record {
        quiet = and_left (not (is_some (recorded directory))) (all_set d values c && rest) t;
        set = and_left (all_set d values c) rest u;
        lasts = and_left (lasts d c n) (pictures_stored directory bytes) v;
        pictures = and_right (lasts d c n) (pictures_stored directory bytes) v;
      }

  pub facts-owed : Owed → owed_ok n directory bytes values c ≡ true
  unfolding owed_ok
  facts-owed o = or-second (eqb n 0) _ (rw (o.quiet, o.set, o.lasts, o.pictures))

-- past the end no entry has a kind
kind-past : (directory : List ℕ) (i : ℕ) → length directory ≤ i * 16 → kind (entry directory i) ≡ 0
unfolding cell
kind-past directory i h = ap (λ (l : List ℕ). get_or (take 16 l) 0 0) (drop_of_length-le directory h)

-- "the active form a stored one": none, or an entry of kind 1
pub active-is : (store links directory : List ℕ) (active : ℕ) → lent_ok store links directory ≡ true → active_ok directory active ≡ true
    → (active ≡ 65535) ⊎ ((active < entries directory) × (kind (entry directory active) ≡ 1))
unfolding active_ok
active-is store links directory active l h = ⊎_elim
    (λ (y : eqb active 65535 ≡ true). inl (eqb-true active 65535 y))
    (λ (y : eqb active 65535 ≡ false).
    let k : kind (entry directory active) ≡ 1 = eqb-true _ 1 (rw y at h) in
    inr (inside (leb (entries directory) active) refl k, k))
    (either (eqb active 65535))
  where
    inside : (b : Bool) → leb (entries directory) active ≡ b → kind (entry directory active) ≡ 1 → active < entries directory
    inside true e k = absurd (let m : entries directory ≤ active = leb-true _ _ e in
        let z : kind (entry directory active) ≡ 0 = kind-past directory active (omega (arith, lent-whole store links directory l)) in
        let w : ⊥ = omega arith in w)
    inside false e k = leb-false (entries directory) active e

-- an entry that is seen as it was has its kind and its bytes
same-held : (m m' : Memory) (j : ℕ) → length m'.directory ≡ length m.directory → j < entries m.directory
    → get_or (shelf_of m') j nothing ≡ get_or (shelf_of m) j nothing
    → held_of m'.store m'.links (entry m'.directory j) ≡ held_of m.store m.links (entry m.directory j)
same-held m m' j e b h =
    sym (shelf-at m'.store m'.links m'.directory j (omega (arith, entries-same m m' e))) ∙ h ∙ shelf-at m.store m.links m.directory j b

abbrev pub bytes_in : Memory → ℕ → List ℕ
bytes_in m active = active_bytes m.store m.links m.directory active

pub bytes-none : (m : Memory) (a : ℕ) → a ≡ 65535 → bytes_in m a ≡ []
unfolding active_bytes
bytes-none m a e = rw (eq-eqb a 65535 e)

bytes_same : (m m' : Memory) (a : ℕ) → content_of m'.store m'.links (entry m'.directory a) ≡ content_of m.store m.links (entry m.directory a)
    → bytes_in m' a ≡ bytes_in m a
unfolding active_bytes
bytes_same m m' a e = rw e

active-none : (directory : List ℕ) (a : ℕ) → a ≡ 65535 → active_ok directory a ≡ true
unfolding active_ok
active-none directory a e = rw (eq-eqb a 65535 e)

active-kind : (dir dir' : List ℕ) (a : ℕ) → kind (entry dir' a) ≡ kind (entry dir a) → active_ok dir' a ≡ active_ok dir a
unfolding active_ok
active-kind dir dir' a e = rw e

-- the active form stays where nothing is owed and its place is seen as it was
pub activity-kept : (s : Session) (m m' : Memory) (values : List ℕ) → s.owed ≡ 0 → store_of m ≡ true → length m'.directory ≡ length m.directory
    → ((j : ℕ) → j < entries m.directory → j ≡ s.active → kind (entry m.directory j) ≡ 1 → get_or (shelf_of m') j nothing ≡ get_or (shelf_of m) j nothing)
    → activity_sound s m.directory (bytes_in m s.active) values ≡ true
    → activity_sound s m'.directory (bytes_in m' s.active) values ≡ true
activity-kept s m m' values z h e same act =
    let a = activity-facts s m.directory (bytes_in m s.active) values act in
    ⊎_elim
    (λ (n : s.active ≡ 65535). facts-activity s m'.directory (bytes_in m' s.active) values (record {
      form = active-none m'.directory s.active n;
      fit = ap (λ (b : List ℕ). values_ok b values s.counters) (bytes-none m' s.active n ∙ sym (bytes-none m s.active n)) ∙ a.fit;
      counts = a.counts;
      owed = owed_none s m'.directory (bytes_in m' s.active) values z;
    }))
    (λ (n : (s.active < entries m.directory) × (kind (entry m.directory s.active) ≡ 1)).
    let k = same-held m m' s.active e n.0 (same s.active n.0 refl n.1) in
    facts-activity s m'.directory (bytes_in m' s.active) values (record {
      form = active-kind m.directory m'.directory s.active (ap (λ (x : Held). x.kind) k) ∙ a.form;
      fit = ap (λ (b : List ℕ). values_ok b values s.counters) (bytes_same m m' s.active (ap (λ (x : Held). x.bytes) k)) ∙ a.fit;
      counts = a.counts;
      owed = owed_none s m'.directory (bytes_in m' s.active) values z;
    }))
    (active-is m.store m.links m.directory s.active (sound-facts m.store m.links m.directory h).lent a.form)

-- ---- lengths

or-neither : (a b : Bool) → a ≡ false → b ≡ false → (a || b) ≡ false
or-neither a b e f = rw (e, f)

store-right : (store links directory : List ℕ) → lent_ok store links directory ≡ true → store_wrong (length store) (length links) ≡ false
unfolding links_wrong store_wrong lent_ok
store-right store links directory h =
    let some : 1 ≤ length links = leb-true _ _ (and_left (leb 1 (length links)) _ (and_right (leb (length links) 2024) _ h)) in
    or-neither _ _ (or-neither _ _ (le-ltb 2024 (length links) (lent-few store links directory h)) (ne_eqb (length links) 0 (λ z. omega arith)))
    (ap not (eq-eqb (length store) (length links * 256) (lent-store store links directory h)))

-- lengths stay right: those of the page and the values are the same, those of the store are right in any sound store
pub lengths-stay : (b v : ℕ) (store links directory store' links' directory' : List ℕ)
    → lengths_wrong b (length store) (length links) (length directory) v ≡ false → lent_ok store' links' directory' ≡ true
    → length directory' ≡ length directory → lengths_wrong b (length store') (length links') (length directory') v ≡ false
unfolding lengths_wrong
lengths-stay b v store links directory store' links' directory' h l e =
    let p = or-none (page_wrong b) _ h in
    or-neither _ _ p.0
    (or-neither _ _ (store-right store' links' directory' l) (rw e (or-none (store_wrong (length store) (length links)) _ p.1).1))

-- ---- the store moves under a good station

module _ (s : Session) (w : World) (g : Good s w) (z : s.owed ≡ 0) where
  abbrev m : Memory
  m = memory_of w

  -- with n portions free then
  pub good-stored : (n : ℕ) (m' : Memory) → store_of m' ≡ true → n ≡ free_count m'.links → length m'.directory ≡ length w.directory → contents_of m' ≡ true
      → ((j : ℕ) → j < entries w.directory → j ≡ s.active → kind (entry w.directory j) ≡ 1 → get_or (shelf_of m') j nothing ≡ get_or (shelf_of (memory_of w)) j nothing)
      → Good (roomed s n) (with_memory w m')
  unfolding numbers_ok activity_sound
  good-stored n m' h f e c same = record {
    lengths = lengths-stay (length w.background) (length w.values) w.store w.links w.directory m'.store m'.links m'.directory
        g.lengths (sound-facts m'.store m'.links m'.directory h).lent e;
    numbers = g.numbers;
    times = g.times;
    background = g.background;
    store = h;
    free = f;
    contents = c;
    activity = activity-kept s m m' w.values z g.store e same g.activity;
  }

  -- one place of the shelf, which is not the active form's
  pub good-moved : (n : ℕ) (m' : Memory) (i : ℕ) (x : Held) → Moved (memory_of w) m' i x → n ≡ free_count m'.links → i < entries w.directory → held_ok x ≡ true
      → (s.active ≡ i → kind (entry w.directory i) ≡ 1 → ⊥) → Good (roomed s n) (with_memory w m')
  good-moved n m' i x v f b k ne =
      good-stored n m' v.sound f v.long-directory (contents-moved m m' i x v b g.contents k)
      (λ j l e o. moved_other m m' i x v j (λ q. ne (sym e ∙ q) (subst (λ (n : ℕ). kind (entry w.directory n) ≡ 1) q o)))

  -- activity ends: whatever became of the active form
  pub good-ended : (n : ℕ) (m' : Memory) → store_of m' ≡ true → n ≡ free_count m'.links → length m'.directory ≡ length w.directory → contents_of m' ≡ true
      → Good (activated (roomed s n) 65535) (unset_in (with_memory w m'))
  unfolding numbers_ok none_set
  good-ended n m' h f e c =
      let a = activity-facts s w.directory (bytes_in m s.active) w.values g.activity in
      let l : length (unset w.values) ≡ length w.values = (unfold unset in length-replicate (length w.values) 0) in
      record {
        lengths = rw l (lengths-stay (length w.background) (length w.values) w.store w.links w.directory m'.store m'.links m'.directory
            g.lengths (sound-facts m'.store m'.links m'.directory h).lent e);
        numbers = g.numbers;
        times = g.times;
        background = g.background;
        store = h;
        free = f;
        contents = c;
        activity = facts-activity (activated (roomed s n) 65535) m'.directory (bytes_in m' 65535) (unset w.values) (record {
          form = active-none m'.directory 65535 refl;
          fit = sound_none (declared_of (bytes_in m' 65535)) w.values;
          counts = a.counts;
          owed = owed_none (activated (roomed s n) 65535) m'.directory (bytes_in m' 65535) (unset w.values) z;
        });
      }
